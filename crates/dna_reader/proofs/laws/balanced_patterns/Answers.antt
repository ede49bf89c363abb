use Rattle.dna_reader.proofs.TableLemmas.{patterns_are_balanced}
use Rattle.dna_reader.proofs.laws.balanced_patterns.Goals as goal

pub returns : goal.returns
returns c = patterns_are_balanced
