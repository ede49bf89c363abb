use Rattle.std.proofs.Common.{◌∙◌, ap, arith, map, subst, sym}
use Rattle.source_text.specs.Measured.{IsMeasured, repeated_skip}
use Rattle.source_text.specs.Pieces.{times}
use Rattle.source_text.proofs.MeasureLemmas.{measured_times}
use Rattle.source_text.proofs.measure.Measure.repeated.Goals as goal

pub returns-then-n-eq0 : goal.returns-then-n-eq0
unfolding times
returns-then-n-eq0 c x is =
    subst (λ n. IsMeasured c.none.result (times n x)) (sym c.if-n-eq0.true) c.none.ensures

pub returns : goal.returns
returns c x is =
    measured_times c.args.self.now (record { pattern = c.held_product.result; template = c.held_product-2.result; plain = c.held_product-3.result; skips = c.in_ok-skips.skips }) c.args.n x (omega (arith, c.if-n-eq0.false)) is
    c.held_product.ensures c.held_product-2.ensures c.held_product-3.ensures (c.in_ok-skips.ensures ∙ ap (map (repeated_skip c.args.n)) c.as_slice.ensures.value)
