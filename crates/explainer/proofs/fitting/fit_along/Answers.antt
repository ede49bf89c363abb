use Rattle.std.proofs.Common.{◌-◌, ◌<◌, drop, map, sym, subst, arith}
use Rattle.sym_strand.proofs.Places.{length-places}
use Rattle.sym_strand.specs.Cells.{places_from}
use Rattle.sym_strand.specs.declared.cells.Cell.TheVariants.{Known}
use Rattle.explainer.specs.Fitting.{FitsAlong}
use Rattle.explainer.specs.declared.fitting.Along.TheVariants.{Holes}
use Rattle.explainer.proofs.FitLemmas.{fits_longer, fits_holes}
use Rattle.explainer.proofs.fitting.fit_along.Goals as goal

pub overflow_sub-hi : goal.overflow_sub-hi
overflow_sub-hi c = omega (arith, c.in-Target.ensures.some, length-places c.in-Target.lo (c.in-Target.hi - c.in-Target.lo))

pub returns-in-Known : goal.returns-in-Known
returns-in-Known c =
    subst (λ z. FitsAlong c.args.bases.now z c.fit_strand.result) (sym c.in-Known.ensures.cells)
    (fits_longer c.args.bases.now (map Known (drop c.in-Known.from c.in-Known.strand.now.bases)) c.in-Known.ensures.rest c.fit_strand.result c.fit_strand.ensures)

pub returns-in-Target : goal.returns-in-Target
returns-in-Target c =
    let lo = c.in-Target.lo in
    let n = c.in-Target.hi - c.in-Target.lo in
    let some : 0 < n = omega (arith, c.in-Target.ensures.some, length-places lo n) in
    subst (λ z. FitsAlong c.args.bases.now z (Holes c.min.result)) (sym c.in-Target.ensures.cells)
    (fits_longer c.args.bases.now (places_from lo n) c.in-Target.ensures.rest (Holes c.min.result)
    (fits_holes c.args.bases.now lo n c.min.result (omega (arith, c.min.ensures, c.requires.some)) (omega (arith, c.min.ensures)) (omega (arith, c.min.ensures))))
