use Rattle.source_code.proofs.LawLemmas.{has_lengths, lengths_are_one}
use Rattle.source_code.proofs.laws.one_list_of_lengths.Goals as goal

pub returns-clause-made : goal.returns-clause-made
returns-clause-made c = has_lengths

pub returns-clause-once : goal.returns-clause-once
returns-clause-once c = lengths_are_one
