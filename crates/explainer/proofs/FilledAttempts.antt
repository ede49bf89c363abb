-- The attempt on cells is the machine's on what they stand for in a target.
use Rattle.std.proofs.Common.{◌≡◌, ℕ, ◌-◌, ◌<◌, ◌≤◌, Some, List, [], ◌∷◌, ◌++◌, length, drop, arith, refl, sym, ap, subst, ◌∙◌, append-nil, append_assoc}
use Rattle.std.specs.Option.{option_map}
use Rattle.std.proofs.lemmas.List.{length-map, drop-map, length-append, drop_all}
use Rattle.std.proofs.Math.Seq.{drop-append_seam}
use Rattle.fuun_base.specs.declared.letters.Base.{Base}
use Rattle.dna_reader.specs.Pairs.{PairStands, PairRunsOut}
use Rattle.dna_reader.specs.Reading.{Read}
use Rattle.dna_reader.specs.Tables.{pattern_table, template_table, ReadsPattern, ReadsTemplate}
use Rattle.exec_loop.specs.Attempt as machine
use Rattle.sym_strand.specs.declared.cells.Cell.{Cell}
use Rattle.sym_strand.specs.Cells.{known_front}
use Rattle.explainer.specs.Filling.{base_in, fill}
use Rattle.explainer.specs.Attempt.{Ending, Matched, NoMatch, TooLong, Finished, Attempt, ReadsBoth, RanOutOn, Rewrites, EndsBy, next_cells, filled_ending}
use Rattle.explainer.specs.Laws.{AttemptIsFilled}
use Rattle.explainer.proofs.LongerReadings.{longer_pattern, longer_template, reading_leaves}
use Rattle.explainer.proofs.Filled.{fill_front, along_filled, no_match_filled, replaced_filled}

-- what is left behind a front of the known front
left_filled : (d front left : List Base) (z : List Cell) → known_front z ≡ front ++ left
    → left ++ fill d (drop (length (known_front z)) z) ≡ fill d (drop (length (known_front z) - length left) z)
left_filled d front left z is =
    let w : List Base = known_front z in
    let t : List Base = fill d (drop (length w) z) in
    let count : length w - length left ≡ length front = omega (arith, ap length is, length-append front left) in
    let whole : fill d z ≡ front ++ (left ++ t) = fill_front d z ∙ ap (λ l. l ++ t) is ∙ append_assoc front left t in
    sym (drop-append_seam front (left ++ t)) ∙ ap (drop (length front)) (sym whole) ∙ drop-map (base_in d) (length front) z ∙ ap (λ n. fill d (drop n z)) (sym count)

pub reads_filled : (d : List Base) (z : List Cell) (attempt : Attempt) (rest : List Cell) → ReadsBoth z attempt rest
    → PairStands (fill d z) attempt.pattern attempt.template attempt.rna (fill d rest)
reads_filled d z attempt rest x =
    let w : List Base = known_front z in
    let t : List Base = fill d (drop (length w) z) in
    let first = reading_leaves pattern_table 0 w attempt.pattern x.pattern_rna x.middle x.pattern in
    let second = reading_leaves template_table 0 x.middle attempt.template x.template_rna x.left x.template in
    let parts : w ≡ (first.0 ++ second.0) ++ x.left = first.1 ∙ ap (λ l. first.0 ++ l) second.1 ∙ sym (append_assoc first.0 second.0 x.left) in
    let behind : x.left ++ t ≡ fill d rest = left_filled d (first.0 ++ second.0) x.left z parts ∙ ap (fill d) (sym x.behind) in
    record {
      pattern_rna = x.pattern_rna;
      template_rna = x.template_rna;
      middle = x.middle ++ t;
      reads_pattern = subst (λ l. ReadsPattern l (Read attempt.pattern x.pattern_rna (x.middle ++ t))) (sym (fill_front d z)) (longer_pattern 0 w t attempt.pattern x.pattern_rna x.middle x.pattern);
      reads_template = subst (λ l. ReadsTemplate (x.middle ++ t) (Read attempt.template x.template_rna l)) behind (longer_template 0 x.middle t attempt.template x.template_rna x.left x.template);
      whole = x.rna;
    }

ran_out_filled : (d : List Base) (z : List Cell) (rna : List (List Base)) → length (known_front z) ≡ length z → RanOutOn z rna → PairRunsOut (fill d z) rna
ran_out_filled d z rna whole x =
    let none : fill d (drop (length (known_front z)) z) ≡ [] = ap (fill d) (drop_all (length (known_front z)) z (omega arith)) in
    let same : fill d z ≡ known_front z = fill_front d z ∙ ap (λ l. known_front z ++ l) none ∙ append-nil (known_front z) in
    subst (λ l. PairRunsOut l rna) (sym same) x

rewrites_filled : (d : List Base) (z : List Cell) (attempt : Attempt) (ending : machine.Ending) (stop : ℕ) (next : List Cell) → Rewrites z attempt stop next
    → machine.Rewrites (fill d z) (record { pattern = attempt.pattern; template = attempt.template; rna = attempt.rna; ending = ending }) stop (fill d next)
rewrites_filled d z attempt ending stop next x = record {
  rest = fill d x.rest;
  places = 0 ∷ x.places;
  groups = x.groups;
  reads = reads_filled d z attempt x.rest x.matches.reads;
  match = (refl, along_filled d x.rest attempt.pattern 0 x.places x.matches.leads);
  stops = x.stops;
  grouped = x.matches.grouped;
  puts = ap (fill d) x.puts ∙ replaced_filled d x.rest attempt.template x.groups stop x.known;
}

ends_filled : (d : List Base) (z : List Cell) (limit : ℕ) (attempt : Attempt) (whole : machine.Ending) (ending : Ending) → EndsBy z limit attempt ending
    → machine.EndsBy (fill d z) limit (record { pattern = attempt.pattern; template = attempt.template; rna = attempt.rna; ending = whole }) (filled_ending d ending)
ends_filled d z limit attempt whole (Matched stop next) x =
    (rewrites_filled d z attempt whole stop next x.0, let within : length next ≤ limit = x.1 in omega (arith, length-map next (base_in d)))
ends_filled d z limit attempt whole (NoMatch next) x = record {
  reads = reads_filled d z attempt next x.reads;
  none = no_match_filled d next attempt.pattern x.fails;
}
ends_filled d z limit attempt whole TooLong x =
    (x.0, fill d x.1, rewrites_filled d z attempt whole x.0 x.1 x.2, let above : limit < length x.1 = x.3 in omega (arith, length-map x.1 (base_in d)))
ends_filled d z limit attempt whole Finished x = record {
  ran_out = ran_out_filled d z attempt.rna x.whole x.ran_out;
  no_pattern = x.no_pattern;
  no_template = x.no_template;
}

pub attempt_is_filled : AttemptIsFilled
attempt_is_filled z limit a d is = ends_filled d z limit a (filled_ending d a.ending) a.ending is

pub next_filled : (d : List Base) (ending : Ending) (next : List Cell) → next_cells ending ≡ Some next → machine.next_dna (filled_ending d ending) ≡ Some (fill d next)
next_filled d (Matched stop cells) next is = ap (option_map (fill d)) is
next_filled d (NoMatch cells) next is = ap (option_map (fill d)) is
next_filled d TooLong next is = cc
next_filled d Finished next is = cc
