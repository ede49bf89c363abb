use Rattle.std.proofs.Common.{◌≡◌, Err, Ok, [], ◌∷◌, codes, refl}
use Rattle.source_text.specs.declared.judging.Refusal.TheVariants.{BadForm, BadName, BadNumber, TooLong, NoCode}
use Rattle.std.proofs.Common.{map}
use Rattle.fuun_base.specs.declared.letters.Base.TheVariants.{I, C, F, P}
use Rattle.dna_items.specs.declared.items.PatItem.TheVariants.{GroupStart, GroupStop}
use Rattle.dna_items.specs.declared.items.TplItem.TheVariants.{Base as TplBase, Group, Len}
use Rattle.source_items.specs.declared.lines.Factor.TheVariants.{Number, Rest, Own, Next}
use Rattle.source_items.specs.declared.lines.Line.TheVariants.{Plain, Pair}
use Rattle.source_items.specs.declared.lines.SourceItem.TheVariants.{Fixed, Skip}
use Rattle.source_text.specs.Judging.{placed}
use Rattle.source_tokens.specs.Names.{first_names}
use Rattle.source_tokens.specs.Plain.{plain}
use Rattle.source_tokens.specs.Statements.{statements_of}
use Rattle.source_tokens.specs.Words.{number_of, word_at, scan}
use Rattle.source_text.specs.Forms.{arrow, form, head, parameters, spot, spots, with_parameters}
use Rattle.source_text.specs.Judging.{known_faults, no_code, with_statement}
use Rattle.source_text.specs.Names.{first_meanings}
use Rattle.source_text.specs.Pieces.{times}
use Rattle.source_text.specs.Reading.{behind, number}
use Rattle.source_text.specs.Sequences.{common, inside_at, level_part, name_part, part, parts, repeats, sequence_by, skip_part, templates}
use Rattle.source_text.specs.Sources.{labels_of, lines_of, taken_all}
use Rattle.source_text.specs.Sums.{factor, sum, sum_on}

row_0 : lines_of 1000 (codes "-> blak") ≡ Err (BadName 3)
unfolding first_names plain statements_of number_of word_at scan arrow form head parameters spot spots with_parameters known_faults no_code with_statement first_meanings times behind number common inside_at level_part name_part part parts repeats sequence_by skip_part templates labels_of taken_all factor sum sum_on
row_0 = refl

row_1 : lines_of 1000 (codes "a = b\nb = a") ≡ Err (BadName 4)
unfolding first_names plain statements_of number_of word_at scan arrow form head parameters spot spots with_parameters known_faults no_code with_statement first_meanings times behind number common inside_at level_part name_part part parts repeats sequence_by skip_part templates labels_of taken_all factor sum sum_on
row_1 = refl

row_2 : lines_of 1000 (codes "(!x)") ≡ Err (BadForm 4)
unfolding first_names plain statements_of number_of word_at scan arrow form head parameters spot spots with_parameters known_faults no_code with_statement first_meanings times behind number common inside_at level_part name_part part parts repeats sequence_by skip_part templates labels_of taken_all factor sum sum_on
row_2 = refl

row_3 : lines_of 1000 (codes "!9223372036854775808 -> ") ≡ Err (BadNumber 1)
unfolding first_names plain statements_of number_of word_at scan arrow form head parameters spot spots with_parameters known_faults no_code with_statement first_meanings times behind number common inside_at level_part name_part part parts repeats sequence_by skip_part templates labels_of taken_all factor sum sum_on
row_3 = refl

row_4 : lines_of 1000 (codes ") -> ") ≡ Err (NoCode 0)
unfolding first_names plain statements_of number_of word_at scan arrow form head parameters spot spots with_parameters known_faults no_code with_statement first_meanings times behind number common inside_at level_part name_part part parts repeats sequence_by skip_part templates labels_of taken_all factor sum sum_on
row_4 = refl

row_5 : lines_of 1000 (codes "here:\n(!here) -> ") ≡ Err (BadName 8)
unfolding first_names plain statements_of number_of word_at scan arrow form head parameters spot spots with_parameters known_faults no_code with_statement first_meanings times behind number common inside_at level_part name_part part parts repeats sequence_by skip_part templates labels_of taken_all factor sum sum_on
row_5 = refl

row_6 : lines_of 1000 (codes "f[x] = x*2000") ≡ Err TooLong
unfolding first_names plain statements_of number_of word_at scan arrow form head parameters spot spots with_parameters known_faults no_code with_statement first_meanings times behind number common inside_at level_part name_part part parts repeats sequence_by skip_part templates labels_of taken_all factor sum sum_on
row_6 = refl

row_7 : lines_of 1000 (codes "a[x;y] = x y\n-> a[I]") ≡ Err (BadName 16)
unfolding first_names plain statements_of number_of word_at scan arrow form head parameters spot spots with_parameters known_faults no_code with_statement first_meanings times behind number common inside_at level_part name_part part parts repeats sequence_by skip_part templates labels_of taken_all factor sum sum_on
row_7 = refl

row_8 : lines_of 1000 (codes "data {0}") ≡ Err (BadForm 5)
unfolding first_names plain statements_of number_of word_at scan arrow form head parameters spot spots with_parameters known_faults no_code with_statement first_meanings times behind number common inside_at level_part name_part part parts repeats sequence_by skip_part templates labels_of taken_all factor sum sum_on
row_8 = refl

row_9 : lines_of 1000 (codes "a[x] = x {0}\ndata a[I]") ≡ Err (BadName 18)
unfolding first_names plain statements_of number_of word_at scan arrow form head parameters spot spots with_parameters known_faults no_code with_statement first_meanings times behind number common inside_at level_part name_part part parts repeats sequence_by skip_part templates labels_of taken_all factor sum sum_on
row_9 = refl

row_10 : lines_of 1000 (codes "[[[[[[[[[[[[[[[[[[[[[[[[[[[[[[[[[[[[[[[[[[[[[[[[[[[[[[[[[[[[[[[[[I]]]]]]]]]]]]]]]]]]]]]]]]]]]]]]]]]]]]]]]]]]]]]]]]]]]]]]]]]]]]]]]]] ->") ≡ Err (BadForm 64)
unfolding first_names plain statements_of number_of word_at scan arrow form head parameters spot spots with_parameters known_faults no_code with_statement first_meanings times behind number common inside_at level_part name_part part parts repeats sequence_by skip_part templates labels_of taken_all factor sum sum_on
row_10 = refl

row_11 : lines_of 1000 (codes "a = I\na:") ≡ Err (BadName 0)
unfolding first_names plain statements_of number_of word_at scan arrow form head parameters spot spots with_parameters known_faults no_code with_statement first_meanings times behind number common inside_at level_part name_part part parts repeats sequence_by skip_part templates labels_of taken_all factor sum sum_on
row_11 = refl

row_12 : lines_of 1000 (codes "a:\na:") ≡ Err (BadName 0)
unfolding first_names plain statements_of number_of word_at scan arrow form head parameters spot spots with_parameters known_faults no_code with_statement first_meanings times behind number common inside_at level_part name_part part parts repeats sequence_by skip_part templates labels_of taken_all factor sum sum_on
row_12 = refl

row_13 : lines_of 1000 (codes "<C>[]I ->") ≡ Err (NoCode 5)
unfolding first_names plain statements_of number_of word_at scan arrow form head parameters spot spots with_parameters known_faults no_code with_statement first_meanings times behind number common inside_at level_part name_part part parts repeats sequence_by skip_part templates labels_of taken_all factor sum sum_on
row_13 = refl

row_14 : lines_of 1000 (codes "(( ) ->") ≡ Err (NoCode 5)
unfolding first_names plain statements_of number_of word_at scan arrow form head parameters spot spots with_parameters known_faults no_code with_statement first_meanings times behind number common inside_at level_part name_part part parts repeats sequence_by skip_part templates labels_of taken_all factor sum sum_on
row_14 = refl

row_15 : lines_of 1000 (codes "move = I") ≡ Err (BadName 0)
unfolding first_names plain statements_of number_of word_at scan arrow form head parameters spot spots with_parameters known_faults no_code with_statement first_meanings times behind number common inside_at level_part name_part part parts repeats sequence_by skip_part templates labels_of taken_all factor sum sum_on
row_15 = refl

row_16 : lines_of 1000 (codes "f[x;x] = I") ≡ Err (BadName 4)
unfolding first_names plain statements_of number_of word_at scan arrow form head parameters spot spots with_parameters known_faults no_code with_statement first_meanings times behind number common inside_at level_part name_part part parts repeats sequence_by skip_part templates labels_of taken_all factor sum sum_on
row_16 = refl

row_17 : lines_of 1000 (codes "a = [b") ≡ Err (BadForm 6)
unfolding first_names plain statements_of number_of word_at scan arrow form head parameters spot spots with_parameters known_faults no_code with_statement first_meanings times behind number common inside_at level_part name_part part parts repeats sequence_by skip_part templates labels_of taken_all factor sum sum_on
row_17 = refl

row_18 : lines_of 1000 (codes "a = I $") ≡ Err (BadForm 6)
unfolding first_names plain statements_of number_of word_at scan arrow form head parameters spot spots with_parameters known_faults no_code with_statement first_meanings times behind number common inside_at level_part name_part part parts repeats sequence_by skip_part templates labels_of taken_all factor sum sum_on
row_18 = refl

row_19 : lines_of 1000 (codes "data = I") ≡ Err (BadForm 5)
unfolding first_names plain statements_of number_of word_at scan arrow form head parameters spot spots with_parameters known_faults no_code with_statement first_meanings times behind number common inside_at level_part name_part part parts repeats sequence_by skip_part templates labels_of taken_all factor sum sum_on
row_19 = refl

row_20 : lines_of 1000 (codes "a[x] = x x\n-> a[I F]*2") ≡ Ok (placed (Pair [] (map TplBase (I ∷ F ∷ I ∷ F ∷ I ∷ F ∷ I ∷ F ∷ []))) 11 ∷ [])
unfolding first_names plain statements_of number_of word_at scan arrow form head parameters spot spots with_parameters known_faults no_code with_statement first_meanings times behind number common inside_at level_part name_part part parts repeats sequence_by skip_part templates labels_of taken_all factor sum sum_on
row_20 = refl

row_21 : lines_of 1000 (codes "(!self)!1 -> {0}{0}\ndata ICFP") ≡ Ok (placed (Pair (Fixed GroupStart ∷ Skip ((Own ∷ []) ∷ []) ∷ Fixed GroupStop ∷ Skip ((Number 1 ∷ []) ∷ []) ∷ []) (Group 0 0 ∷ Group 0 0 ∷ [])) 10 ∷ placed (Plain (I ∷ C ∷ F ∷ P ∷ [])) 20 ∷ [])
unfolding first_names plain statements_of number_of word_at scan arrow form head parameters spot spots with_parameters known_faults no_code with_statement first_meanings times behind number common inside_at level_part name_part part parts repeats sequence_by skip_part templates labels_of taken_all factor sum sum_on
row_21 = refl

row_22 : lines_of 1000 (codes "(!end) -> {0}\ndata ICFP\nend:\ndata P") ≡ Ok (placed (Pair (Fixed GroupStart ∷ Skip ((Next 1 ∷ []) ∷ []) ∷ Fixed GroupStop ∷ []) (Group 0 0 ∷ [])) 7 ∷ placed (Plain (I ∷ C ∷ F ∷ P ∷ [])) 14 ∷ placed (Plain (P ∷ [])) 29 ∷ [])
unfolding first_names plain statements_of number_of word_at scan arrow form head parameters spot spots with_parameters known_faults no_code with_statement first_meanings times behind number common inside_at level_part name_part part parts repeats sequence_by skip_part templates labels_of taken_all factor sum sum_on
row_22 = refl

row_23 : lines_of 1000 (codes "!{9223372036854775807+1} ->") ≡ Ok (placed (Pair (Skip ((Number 9223372036854775807 ∷ []) ∷ (Number 1 ∷ []) ∷ []) ∷ []) []) 25 ∷ [])
unfolding first_names plain statements_of number_of word_at scan arrow form head parameters spot spots with_parameters known_faults no_code with_statement first_meanings times behind number common inside_at level_part name_part part parts repeats sequence_by skip_part templates labels_of taken_all factor sum sum_on
row_23 = refl

row_24 : lines_of 1000 (codes "a = I*5\n!{7*a+rest} -> |3|{1,2}") ≡ Ok (placed (Pair (Skip ((Number 7 ∷ Number 5 ∷ []) ∷ (Rest ∷ []) ∷ []) ∷ []) (Len 3 ∷ Group 1 2 ∷ [])) 20 ∷ [])
unfolding first_names plain statements_of number_of word_at scan arrow form head parameters spot spots with_parameters known_faults no_code with_statement first_meanings times behind number common inside_at level_part name_part part parts repeats sequence_by skip_part templates labels_of taken_all factor sum sum_on
row_24 = refl

row_25 : lines_of 1000 (codes "data [[[[[[[[[[[[[[[[[[[[[[[[[[[[[[[[[[[[[[[[[[[[[[[[[[[[[[[[[[[[[[[[I]]]]]]]]]]]]]]]]]]]]]]]]]]]]]]]]]]]]]]]]]]]]]]]]]]]]]]]]]]]]]]]]") ≡ Ok (placed (Plain (I ∷ [])) 0 ∷ [])
unfolding first_names plain statements_of number_of word_at scan arrow form head parameters spot spots with_parameters known_faults no_code with_statement first_meanings times behind number common inside_at level_part name_part part parts repeats sequence_by skip_part templates labels_of taken_all factor sum sum_on
row_25 = refl
