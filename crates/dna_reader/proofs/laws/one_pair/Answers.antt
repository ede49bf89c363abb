use Rattle.dna_reader.proofs.PairLemmas.{has_pair, pairs_do_not_run_out, pair_gives_once}
use Rattle.dna_reader.proofs.PairLemmas as lemmas
use Rattle.dna_reader.proofs.laws.one_pair.Goals as goal

pub returns-clause-made : goal.returns-clause-made
returns-clause-made c = has_pair

pub returns-clause-once : goal.returns-clause-once
returns-clause-once c = lemmas.one_pair

pub returns-clause-apart : goal.returns-clause-apart
returns-clause-apart c = pairs_do_not_run_out

pub returns-clause-rna_once : goal.returns-clause-rna_once
returns-clause-rna_once c = pair_gives_once
