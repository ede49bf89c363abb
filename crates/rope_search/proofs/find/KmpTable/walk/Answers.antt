use Rattle.std.proofs.Common.{◌≡◌, ◌+◌, length, get_or, arith, refl, ap, subst}
use Rattle.fuun_base.specs.declared.letters.Base.TheVariants.{I}
use Rattle.rope_search.specs.Sought.{Goes}
use Rattle.rope_search.proofs.Going.{goes_then, goes_next}
use Rattle.rope_search.proofs.find.KmpTable.walk.Goals as goal

pub returns-then-found-len : goal.returns-then-found-len
returns-then-found-len c =
    let s = c.args.self.now in
    let d = c.args.bases.now in
    let at = c.loop-at.at in
    let all : c.next.result ≡ length s = omega (arith, ap length c.self.view_is) in
    let step : Goes s d at c.loop-at.found (at + 1) c.next.result = goes_next s d at c.loop-at.found (get_or d at I) c.next.result c.loop-at.invariant.short (omega arith) refl c.next.ensures in
    (omega arith, subst (Goes s d 0 c.args.found.now (at + 1)) all (goes_then s d 0 c.args.found.now at c.loop-at.found (at + 1) c.next.result c.loop-at.invariant.goes step))

pub loop-at-preserved : goal.loop-at-preserved
loop-at-preserved c =
    let s = c.args.self.now in
    let d = c.args.bases.now in
    let at = c.loop-at.at in
    let step : Goes s d at c.loop-at.found (at + 1) c.next.result = goes_next s d at c.loop-at.found (get_or d at I) c.next.result c.loop-at.invariant.short (omega arith) refl c.next.ensures in
    record {
      short = omega (arith, ap length c.self.view_is, c.next.ensures.ends.most);
      goes = goes_then s d 0 c.args.found.now at c.loop-at.found (at + 1) c.next.result c.loop-at.invariant.goes step;
    }

pub returns : goal.returns
returns c =
    let s = c.args.self.now in
    let d = c.args.bases.now in
    let end : c.loop-at.at ≡ length d = omega arith in
    (c.loop-at.invariant.short, subst (λ n. Goes s d 0 c.args.found.now n c.loop-at.found) end c.loop-at.invariant.goes)
