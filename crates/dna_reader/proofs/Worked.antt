-- The readings that were worked out by hand are readings.
use Rattle.std.proofs.Common.{refl, [], ◌∷◌, arith}
use Rattle.fuun_base.specs.declared.letters.Base.TheVariants.{I, C, F, P}
use Rattle.fuun_base.specs.Quote.{asnat, asnat_from}
use Rattle.dna_reader.specs.Tables.{pattern_table, template_table}
use Rattle.dna_reader.specs.Worked.{behind_pattern, PatternWorked, TemplateWorked, SearchWorked, CommandWorked, ShortCommandWorked, NoNumeralWorked, OpenGroupWorked, PairWorked, SearchPairWorked}
use Rattle.dna_reader.proofs.ReadingLemmas.{reads_computed}
use Rattle.dna_reader.proofs.TableLemmas.{pattern_fits, template_fits}

pub pattern_worked : PatternWorked
pattern_worked = reads_computed pattern_table pattern_fits 30 0 (I ∷ I ∷ P ∷ I ∷ P ∷ I ∷ C ∷ P ∷ I ∷ I ∷ C ∷ I ∷ C ∷ I ∷ I ∷ F ∷ behind_pattern) (omega arith)

pub template_worked : TemplateWorked
template_worked = reads_computed template_table template_fits 14 0 behind_pattern (omega arith)

pub search_worked : SearchWorked
search_worked = reads_computed pattern_table pattern_fits 9 0 (I ∷ F ∷ F ∷ F ∷ P ∷ I ∷ I ∷ C ∷ C ∷ []) (omega arith)

pub command_worked : CommandWorked
command_worked = reads_computed pattern_table pattern_fits 15 0 (C ∷ I ∷ I ∷ I ∷ F ∷ P ∷ C ∷ F ∷ P ∷ C ∷ F ∷ F ∷ I ∷ I ∷ F ∷ []) (omega arith)

pub short_command_worked : ShortCommandWorked
short_command_worked = reads_computed template_table template_fits 5 0 (I ∷ I ∷ I ∷ P ∷ I ∷ []) (omega arith)

pub no_numeral_worked : NoNumeralWorked
no_numeral_worked = reads_computed pattern_table pattern_fits 4 0 (I ∷ P ∷ C ∷ C ∷ []) (omega arith)

pub open_group_worked : OpenGroupWorked
open_group_worked = reads_computed pattern_table pattern_fits 6 0 (I ∷ I ∷ P ∷ I ∷ I ∷ C ∷ []) (omega arith)

pub pair_worked : PairWorked
unfolding asnat asnat_from
pair_worked = refl

pub search_pair_worked : SearchPairWorked
search_pair_worked = refl
