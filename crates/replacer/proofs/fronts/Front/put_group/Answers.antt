use Rattle.std.proofs.Common.{◌+◌, ◌≤◌, ◌^◌, ◌++◌, arith, ap, rules, length, All, ◌∙◌}
use Rattle.fuun_base.specs.Quote.{protect}
use Rattle.matcher.specs.Found.{LiesWithin}
use Rattle.replacer.specs.Replacement.{text_of, texts_of}
use Rattle.replacer.proofs.PutLengths.{nothing_put, plain_text}
use Rattle.replacer.proofs.fronts.Front.put_group.Goals as goal

pub returns-then-lo-hi-clause-bases : goal.returns-then-lo-hi-clause-bases
returns-then-lo-hi-clause-bases g c =
    let d = g.S.Strand.bases c.args.s.now in
    let front = g.S.Strand.bases c.args.self.done ++ c.args.self.waiting.items in
    let groups : All (LiesWithin (length d)) c.args.groups.now = search rules in
    let lies = c.range_of-lo.ensures.within (length d) groups in
    nothing_put front d c.range_of-lo.result.0 c.range_of-lo.result.1 c.args.level c.if-lo-hi.true lies.1
    ∙ ap (λ text. front ++ protect c.args.level text) (c.range_of-lo.ensures.text d)

pub put_part-requires : goal.put_part-requires
put_part-requires g c κs within =
    let text = text_of (texts_of (g.S.Strand.bases c.args.s.now) c.args.groups.now) c.args.n in
    let stands = length (g.S.Strand.bases c.args.self.done ++ c.args.self.waiting.items) in
    let part = g.S.Strand.bases c.in_ok-part.part in
    let same = ap length (plain_text part text c.args.level c.if-level-eq0.true c.in_ok-part.ensures.cut.0) in
    let small : stands + length part ≤ 2 ^ 40 = omega (arith, same) in
    let fits : stands + length part ≤ g.most = omega (arith, same) in
    let rises = g.met.S.Strand.bound_rises (length part) g.most (omega arith) in
    (search rules, (search rules, (small, (fits, (search rules, omega (arith, rises, c.in_ok-part.ensures.cut.1))))))

pub returns-then-level-eq0-clause-bases : goal.returns-then-level-eq0-clause-bases
returns-then-level-eq0-clause-bases g c =
    let text = text_of (texts_of (g.S.Strand.bases c.args.s.now) c.args.groups.now) c.args.n in
    let part = g.S.Strand.bases c.in_ok-part.part in
    rw (← plain_text part text c.args.level c.if-level-eq0.true c.in_ok-part.ensures.cut.0) c.put_part.ensures.bases
