use Rattle.std.proofs.Common.{◌+◌, ◌-◌, ◌<◌, ◌≤◌, ◌^◌, length, drop, map, arith, length-drop}
use Rattle.std.proofs.lemmas.List.{length-map}
use Rattle.sym_strand.proofs.Places.{length-places}
use Rattle.sym_strand.specs.Cells.{places_from}
use Rattle.sym_strand.specs.declared.cells.Cell.TheVariants.{Known}
use Rattle.explainer.proofs.OpenLemmas.{stretch_within}
use Rattle.explainer.proofs.open_places.stretch_end.Goals as goal

pub overflow_sub-result-in-Target : goal.overflow_sub-result-in-Target
overflow_sub-result-in-Target c = omega (arith, c.in-Target.ensures.some, length-places c.in-Target.lo (c.in-Target.hi - c.in-Target.lo))

pub overflow_add-result-in-Target : goal.overflow_add-result-in-Target
overflow_add-result-in-Target c =
    let n = c.in-Target.hi - c.in-Target.lo in
    let most : length c.args.dna.now ≤ 2 ^ 41 = c.len-len.ensures.most in
    let h : c.args.place + (c.in-Target.hi - c.in-Target.lo) < 2 ^ 64 =
    omega (arith, stretch_within c.args.dna.now (places_from c.in-Target.lo n) c.in-Target.ensures.rest c.args.place c.in-Target.ensures.cells c.requires, length-places c.in-Target.lo n) in
    omega arith

pub returns-in-Known-clause-within : goal.returns-in-Known-clause-within
returns-in-Known-clause-within c =
    let bases = drop c.in-Known.from c.in-Known.strand.now.bases in
    omega (arith, stretch_within c.args.dna.now (map Known bases) c.in-Known.ensures.rest c.args.place c.in-Known.ensures.cells c.requires, length-map bases Known, length-drop c.in-Known.from c.in-Known.strand.now.bases)

pub returns-in-Target-clause-after : goal.returns-in-Target-clause-after
returns-in-Target-clause-after c = omega (arith, c.in-Target.ensures.some, length-places c.in-Target.lo (c.in-Target.hi - c.in-Target.lo))

pub returns-in-Target-clause-within : goal.returns-in-Target-clause-within
returns-in-Target-clause-within c =
    let n = c.in-Target.hi - c.in-Target.lo in
    omega (arith, stretch_within c.args.dna.now (places_from c.in-Target.lo n) c.in-Target.ensures.rest c.args.place c.in-Target.ensures.cells c.requires, length-places c.in-Target.lo n)
