use Rattle.rewinder.proofs.PlaceLemmas.{place_is_least}
use Rattle.rewinder.proofs.laws.place_is_least.Goals as goal

pub returns : goal.returns
returns c = place_is_least
