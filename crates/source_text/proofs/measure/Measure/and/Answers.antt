use Rattle.source_text.proofs.MeasureLemmas.{measured_both}
use Rattle.source_text.proofs.measure.Measure.and.Goals as goal

pub returns : goal.returns
returns c x y first second =
    measured_both c.args.self c.args.other (record { pattern = c.held_sum.result; template = c.held_sum-2.result; plain = c.held_sum-3.result; skips = c.append.new.self }) x y first second
    c.held_sum.ensures c.held_sum-2.ensures c.held_sum-3.ensures c.in_ok-append.ensures.items
