use Rattle.dna_reader.specs.Tables.{pattern_table}
use Rattle.dna_reader.proofs.ReadingLemmas.{has_cutting, one_cutting, has_reading, one_reading}
use Rattle.dna_reader.proofs.TableLemmas.{pattern_fits}
use Rattle.dna_reader.proofs.laws.one_pattern.Goals as goal

pub returns-clause-cut : goal.returns-clause-cut
returns-clause-cut c = has_cutting pattern_table pattern_fits

pub returns-clause-cut_once : goal.returns-clause-cut_once
returns-clause-cut_once c = one_cutting pattern_table

pub returns-clause-read : goal.returns-clause-read
returns-clause-read c = has_reading pattern_table pattern_fits

pub returns-clause-once : goal.returns-clause-once
returns-clause-once c = one_reading pattern_table
