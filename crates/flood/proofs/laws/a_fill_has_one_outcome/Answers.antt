use Rattle.flood.proofs.Fills.{a_fill}
use Rattle.flood.proofs.Regions.{one_fill}
use Rattle.flood.proofs.laws.a_fill_has_one_outcome.Goals as goal

pub returns : goal.returns
returns c = record { some = a_fill; one = one_fill }
