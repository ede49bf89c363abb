use Rattle.std.proofs.Common.{◌≡◌, ◌+◌, ◌-◌, ◌^◌, ◌≤◌, ◌<◌, ◌⊎◌, ℕ, arith, inl, inr}
use Rattle.std.specs.Prelude.{slice_range}
use Rattle.sym_strand.specs.Cells.{places_from}
use Rattle.sym_strand.proofs.CellLemmas.{part_most, part_fits, part_of_places, ok_same}
use Rattle.sym_strand.proofs.cutting.cut_places.Goals as goal

part_below : (lo hi to from : ℕ) → from ≤ to → lo < 2 ^ 64 → hi < 2 ^ 64 → (lo + to ≤ hi) ⊎ (to ≡ 0) → lo + from < 2 ^ 64
part_below lo hi to from order low high (inl within) = omega arith
part_below lo hi to from order low high (inr none) = omega arith

pub overflow_add-lo : goal.overflow_add-lo
overflow_add-lo c =
    let h : c.args.lo + c.args.from < 2 ^ 64 = part_below c.args.lo c.args.hi c.args.to c.args.from c.requires.order (omega arith) (omega arith) (part_fits c.args.lo c.args.hi c.args.to c.requires.within) in omega arith

pub overflow_add-lo-2 : goal.overflow_add-lo-2
overflow_add-lo-2 c =
    let h : c.args.lo + c.args.to < 2 ^ 64 = part_below c.args.lo c.args.hi c.args.to c.args.to (omega arith) (omega arith) (omega arith) (part_fits c.args.lo c.args.hi c.args.to c.requires.within) in omega arith

pub of_target-requires : goal.of_target-requires
of_target-requires c = part_most c.args.lo c.args.from c.args.to c.requires.most

pub returns : goal.returns
returns c =
    ok_same c.of_target.result (places_from (c.args.lo + c.args.from) (c.args.lo + c.args.to - (c.args.lo + c.args.from))) (slice_range (places_from c.args.lo (c.args.hi - c.args.lo)) c.args.from c.args.to)
    c.of_target.ensures (part_of_places c.args.lo c.args.hi c.args.from c.args.to c.requires.order c.requires.within)
