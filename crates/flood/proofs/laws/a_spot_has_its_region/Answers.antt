use Rattle.flood.proofs.Fills.{region_decided}
use Rattle.flood.proofs.Regions.{region_here, region_part}
use Rattle.flood.proofs.laws.a_spot_has_its_region.Goals as goal

pub returns : goal.returns
returns c = record { decided = region_decided; begins = region_here; alike = region_part }
