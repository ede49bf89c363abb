use Rattle.dna_reader.specs.Tables.{template_table}
use Rattle.dna_reader.proofs.ReadingLemmas.{has_cutting, one_cutting, has_reading, one_reading}
use Rattle.dna_reader.proofs.TableLemmas.{template_fits}
use Rattle.dna_reader.proofs.laws.one_template.Goals as goal

pub returns-clause-cut : goal.returns-clause-cut
returns-clause-cut c = has_cutting template_table template_fits

pub returns-clause-cut_once : goal.returns-clause-cut_once
returns-clause-cut_once c = one_cutting template_table

pub returns-clause-read : goal.returns-clause-read
returns-clause-read c = has_reading template_table template_fits

pub returns-clause-once : goal.returns-clause-once
returns-clause-once c = one_reading template_table
