use Rattle.std.proofs.Common.{ℕ, ◌+◌, ◌-◌, ◌≤◌, length, drop, map, arith, length-drop}
use Rattle.std.proofs.lemmas.List.{length-map}
use Rattle.sym_strand.proofs.Places.{length-places}
use Rattle.sym_strand.specs.Cells.{places_from}
use Rattle.sym_strand.specs.declared.cells.Cell.TheVariants.{Known}
use Rattle.explainer.specs.Open.{GoesOn, GoesOnAlong}
use Rattle.explainer.proofs.OpenLemmas.{stretch_within, there_along, ok_map}
use Rattle.explainer.proofs.open_places.open_next.Goals as goal

pub overflow_sub-hi : goal.overflow_sub-hi
overflow_sub-hi c = omega (arith, c.in-Target.ensures.some, length-places c.in-Target.lo (c.in-Target.hi - c.in-Target.lo))

pub open_all-requires-clause-some : goal.open_all-requires-clause-some
open_all-requires-clause-some c = omega (arith, c.in-Target.ensures.some, length-places c.in-Target.lo (c.in-Target.hi - c.in-Target.lo))

pub open_all-requires-clause-most : goal.open_all-requires-clause-most
open_all-requires-clause-most c =
    let n = c.in-Target.hi - c.in-Target.lo in
    omega (arith, c.len-len.ensures.most, stretch_within c.args.dna.now (places_from c.in-Target.lo n) c.in-Target.ensures.rest c.args.place c.in-Target.ensures.cells c.requires.place, length-places c.in-Target.lo n)

pub returns-in-Known-clause-within : goal.returns-in-Known-clause-within
returns-in-Known-clause-within c =
    let bases = drop c.in-Known.from c.in-Known.strand.now.bases in
    ok_map c.open_known.result (λ (next : ℕ). next ≤ c.args.place + (length c.in-Known.strand.now.bases - c.in-Known.from)) (λ (next : ℕ). next ≤ length c.args.dna.now) c.open_known.ensures.within
    (λ next less. omega (arith, less, stretch_within c.args.dna.now (map Known bases) c.in-Known.ensures.rest c.args.place c.in-Known.ensures.cells c.requires.place, length-map bases Known, length-drop c.in-Known.from c.in-Known.strand.now.bases))

pub returns-in-Known-clause-goes : goal.returns-in-Known-clause-goes
returns-in-Known-clause-goes c =
    let bases = drop c.in-Known.from c.in-Known.strand.now.bases in
    ok_map c.open_known.result (λ (next : ℕ). GoesOnAlong c.args.table.now bases c.args.begun.now.items c.args.place c.open_known.new.begun.items next)
    (λ (next : ℕ). GoesOn c.args.table.now c.args.dna.now c.args.begun.now.items c.args.place c.open_known.new.begun.items next) c.open_known.ensures.goes
    (λ next goes. goes c.args.dna.now (there_along c.args.dna.now c.in-Known.ensures.rest bases c.args.place c.in-Known.ensures.cells))

pub returns-in-Target-clause-within : goal.returns-in-Target-clause-within
returns-in-Target-clause-within c =
    let n = c.in-Target.hi - c.in-Target.lo in
    ok_map c.open_all.result (λ (next : ℕ). next ≤ c.args.place + n) (λ (next : ℕ). next ≤ length c.args.dna.now) c.open_all.ensures.within
    (λ next less. omega (arith, less, stretch_within c.args.dna.now (places_from c.in-Target.lo n) c.in-Target.ensures.rest c.args.place c.in-Target.ensures.cells c.requires.place, length-places c.in-Target.lo n))
