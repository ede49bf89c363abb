use Rattle.std.proofs.Common.{refl}
use Rattle.source_text.proofs.MeasureLemmas.{measured_search}
use Rattle.source_text.proofs.measure.Measure.search.Goals as goal

pub returns : goal.returns
returns c x at are is =
    measured_search c.args.self.now (record { pattern = c.held_sum.result; template = 1; plain = 1; skips = c.new.result }) x at are is c.held_sum.ensures refl refl c.new.ensures.items
