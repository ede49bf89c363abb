use Rattle.source_code.proofs.LawLemmas.{names_are_distances}
use Rattle.source_code.proofs.laws.names_are_distances.Goals as goal

pub returns : goal.returns
returns c = names_are_distances
