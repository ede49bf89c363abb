use Rattle.dna_reader.specs.Tables.{pattern_table, template_table}
use Rattle.dna_reader.proofs.ReadingLemmas.{short_rna}
use Rattle.dna_reader.proofs.ReadingLemmas as lemmas
use Rattle.dna_reader.proofs.laws.short_readings.Goals as goal

pub returns-clause-pattern : goal.returns-clause-pattern
returns-clause-pattern c = lemmas.short_readings pattern_table

pub returns-clause-pattern_rna : goal.returns-clause-pattern_rna
returns-clause-pattern_rna c = short_rna pattern_table

pub returns-clause-template : goal.returns-clause-template
returns-clause-template c = lemmas.short_readings template_table

pub returns-clause-template_rna : goal.returns-clause-template_rna
returns-clause-template_rna c = short_rna template_table
