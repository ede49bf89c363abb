use Rattle.std.proofs.Common.{◌≡◌, ◌+◌, slice_range, length, arith, refl, sym, subst}
use Rattle.rope_search.specs.Sought.{Goes}
use Rattle.rope_search.proofs.Going.{goes_then, goes_block, lies_rest, length-rest}
use Rattle.rope_search.proofs.filter.passed_by.Goals as goal

pub passing-preserved : goal.passing-preserved
passing-preserved g c =
    let needle = c.args.needle.now in
    let bases = c.args.bases.now in
    let place = c.passing.place in
    let none : c.args.found ≡ 0 = omega arith in
    let block : Goes needle bases place 0 (place + g.row.N) 0 = goes_block needle bases (slice_range bases place (length bases)) place g.row.N (omega arith) (lies_rest bases place (omega arith)) (omega (arith, length-rest bases place (omega arith))) (c.if-may_begin.ensures refl) in
    record {
      from = omega arith;
      most = omega arith;
      goes = goes_then needle bases c.args.at c.args.found place c.args.found (place + g.row.N) c.args.found c.passing.invariant.goes (subst (λ f. Goes needle bases place f (place + g.row.N) f) (sym none) block);
    }
