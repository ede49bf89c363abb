use Rattle.std.proofs.Common.{◌+◌, ◌-◌, ◌<◌, ◌++◌, arith, ap, sym, ◌∙◌}
use Rattle.sym_strand.specs.Cells.{places_from}
use Rattle.sym_strand.proofs.Places.{length-places, same_places, append-places}
use Rattle.sym_strand.proofs.RunLemmas.{places_apart}
use Rattle.sym_strand.proofs.joining.whole.Goals as goal

pub returns-then-hi-from : goal.returns-then-hi-from
returns-then-hi-from c = λ first second.
    let a = c.args.lo in let b = c.args.hi in let d = c.args.to in
    let order : a < b = omega (arith, first, length-places a (b - a)) in
    let order' : b < d = omega (arith, second, length-places c.args.from (d - c.args.from)) in
    same_places a a (d - a) (b - a + (d - c.args.from)) (omega arith) (omega arith)
    ∙ sym (append-places a (b - a) (d - c.args.from))
    ∙ ap (λ z. places_from a (b - a) ++ z) (same_places (a + (b - a)) c.args.from (d - c.args.from) (d - c.args.from) (omega arith) (omega arith))

pub returns-else-hi-from : goal.returns-else-hi-from
returns-else-hi-from c = λ first second.
    let a = c.args.lo in let b = c.args.hi in
    let order : a < b = omega (arith, first, length-places a (b - a)) in
    places_apart a (b - a) c.args.from (c.args.to - c.args.from) first second (λ e. absurd (c.if-hi-from.false (omega (arith, e))))
