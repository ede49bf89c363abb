use Rattle.rewinder.proofs.VersionLemmas.{version_is_one}
use Rattle.rewinder.proofs.laws.version_is_one.Goals as goal

pub returns : goal.returns
returns c = version_is_one
