-- A prefix on cells: each row's attempt matches whatever the target, so what is told of the prefix is the patched target.
use Rattle.std.proofs.Common.{◌≡◌, ℕ, suc, ◌+◌, ◌-◌, ◌≤◌, Bool, true, false, Some, Result, Ok, Err, List, [], ◌∷◌, ◌++◌, map, flat_map, length, take, drop, nat_le, arith, inl, inr, refl, sym, ap, subst, ◌∙◌, append_assoc}
use Rattle.std.specs.Prelude.{if◌then◌else◌, nat_lt, replicate}
use Rattle.std.proofs.lemmas.Bool.{and_parts, leb-true, le-leb, lt-leb, le-ltb, cases_lt}
use Rattle.std.proofs.lemmas.List.{append_cancel_left, length-append, length-map, length-replicate}
use Rattle.std.proofs.lemmas.Option.{same_Some}
use Rattle.fuun_base.specs.declared.letters.Base.{Base}
use Rattle.fuun_base.specs.declared.letters.Base.TheVariants.{I}
use Rattle.exec_loop.specs.Attempt as machine
use Rattle.exec_loop.specs.Attempt.{next_dna}
use Rattle.exec_loop.proofs.Attempts.{one_attempt}
use Rattle.patch_text.specs.declared.rows.PatchRow.{PatchRow}
use Rattle.patch_text.specs.declared.rows.PatchRow.TheVariants.{Edit, Copy, Move}
use Rattle.patch_text.specs.Contents.{Contents}
use Rattle.patch_text.specs.Lengths.{fits, AllFit}
use Rattle.patch_compile.specs.Code.{edit_code, range_code, row_code, prefix}
use Rattle.patch_compile.specs.Law.{StaysWithin}
use Rattle.patch_compile.specs.Splice.{splice, patched}
use Rattle.patch_compile.proofs.Attempts.{Steps, edit_readable, edit_groups, range_readable, range_groups}
use Rattle.patch_compile.proofs.Carried.{prefix_carries_out}
use Rattle.patch_compile.proofs.Lengths.{length-splice}
use Rattle.patch_compile.proofs.Pairs.{edit_pattern, literals, range_pattern, groups, edit_is_pair, range_is_pair}
use Rattle.patch_compile.proofs.Rows.{row_carries}
use Rattle.sym_strand.specs.declared.cells.Cell.{Cell}
use Rattle.sym_strand.specs.declared.cells.Cell.TheVariants.{Known}
use Rattle.sym_strand.specs.Cells.{places_from, start_cells}
use Rattle.explainer.specs.Filling.{base_in, fill}
use Rattle.explainer.specs.Replacement.{depends_on_target}
use Rattle.explainer.specs.Attempt.{Attempt, Matched, EndsBy, IsAttempt, filled, filled_ending, next_cells}
use Rattle.explainer.specs.Run as run
use Rattle.explainer.specs.Run.{End, Budget, LeadOn, Run, IsRun, Explains, EndsSo, end_of, rna_of}
use Rattle.explainer.specs.Answers.{IsExplained, IsAsTold, bases_in}
use Rattle.explainer.specs.Lines.{explained_text}
use Rattle.explainer.specs.declared.explained.Explained.{Explained}
use Rattle.explainer.specs.declared.explained.ExplainError.{ExplainError}
use Rattle.explainer.specs.declared.explained.ExplainError.TheVariants as error
use Rattle.explainer.proofs.CodedAttempts.{StepsBy, steps_by, fill_before}
use Rattle.explainer.proofs.EveryTarget.{found_for_every_target}
use Rattle.explainer.proofs.Filled.{fill_start}
use Rattle.explainer.proofs.FilledAttempts.{attempt_is_filled}
use Rattle.explainer.proofs.OneRun.{one_run}
use Rattle.fuun_top.specs.MadeChains.{AllStayWithin, IsToldOfPatch, PatchIsExplained}
use Rattle.fuun_top.specs.Making.{IsExplanation, explain_refusal, told}
use Rattle.fuun_top.specs.Output.{Output, IsAnswer, OutputBy, answered}
use Rattle.fuun_top.specs.Reading.{explained, then_read}
use Rattle.fuun_top.specs.declared.inputs.Inputs.TheVariants as inputs
use Rattle.fuun_top.specs.declared.status.InFile.TheVariants as file
use Rattle.fuun_top.specs.declared.status.Status.TheVariants.{StartTooLong}
use Rattle.fuun_words.specs.declared.request.Request.TheVariants as words
use Rattle.fuun_top.proofs.ChainedPatches.{kept_is_prefix, kept_is_read}
use Rattle.fuun_top.proofs.ReadBack.{output_by}

-- rows

known_literals : (put : List Base) (texts : List (List Cell)) → depends_on_target texts (literals put) ≡ false
known_literals [] texts = refl
known_literals (b ∷ put) texts = known_literals put texts

known_groups : (references : List ℕ) (texts : List (List Cell)) → depends_on_target texts (groups references) ≡ false
known_groups [] texts = refl
known_groups (g ∷ references) texts = known_groups references texts

-- the part of a row, before further parts and cells
abbrev StepsRow : List Base → List Base → List Cell → Type 0
StepsRow code r c = StepsBy (map Known (code ++ r) ++ c) r

edit_steps : (place cut : ℕ) (put r : List Base) (c : List Cell) → place + cut ≤ length c → StepsRow (edit_code (place + length r) cut put) r c
edit_steps place cut put r c within =
    let n : ℕ = place + length r in
    let inside : n + cut ≤ length (map Known r ++ c) = omega (arith, within, length-append (map Known r) c, length-map r Known) in
    subst (λ code. StepsRow code r c) (edit_is_pair n cut put)
    (steps_by (edit_pattern n cut) (literals put) r c place (n + cut) (0 ∷ n ∷ n ∷ (n + cut) ∷ []) [] (edit_readable n cut)
    (refl, ((omega arith, omega (arith, inside)), (refl, ((refl, inside), tt)))) refl (record { number = refl; each = edit_groups n cut }) (known_literals put))

range_steps : (a b c' : ℕ) (more : List ℕ) (r : List Base) (c : List Cell) → a + b + c' ≤ length c → StepsRow (range_code (a + length r) b c' (0 ∷ more)) r c
range_steps a b c' more r c within =
    let n : ℕ = a + length r in
    let inside : n + b + c' ≤ length (map Known r ++ c) = omega (arith, within, length-append (map Known r) c, length-map r Known) in
    subst (λ code. StepsRow code r c) (range_is_pair n b c' (0 ∷ more))
    (steps_by (range_pattern n b c') (groups more) r c a (n + b + c') (0 ∷ n ∷ n ∷ n ∷ (n + b) ∷ (n + b) ∷ (n + b) ∷ (n + b + c') ∷ (n + b + c') ∷ [])
    ((n, n + b) ∷ (n + b, n + b + c') ∷ []) (range_readable n b c')
    (refl, ((omega arith, omega (arith, inside)), (refl, (refl, ((refl, omega (arith, inside)), (refl, (refl, ((refl, inside), (refl, tt)))))))))
    refl (record { number = refl; each = range_groups n b c' }) (known_groups more))

copy_steps : (source count target : ℕ) (r : List Base) (c : List Cell) → source + count ≤ length c → target ≤ length c → StepsRow (row_code (Copy source count target) (length r)) r c
copy_steps source count target r c within there =
    elim (cases_lt source target) as (λ _. StepsRow (row_code (Copy source count target) (length r)) r c) [
      | inl at ↦ elim (cases_lt target (source + count)) as (λ _. StepsRow (row_code (Copy source count target) (length r)) r c) [
        | inl inside ↦
            rw (lt-leb target source at, lt-leb (source + count) target inside)
            (range_steps source (target - source) (source + count - target) (1 ∷ 1 ∷ 2 ∷ 2 ∷ []) r c (omega (arith, within, at, inside)))
        | inr behind ↦
            rw (lt-leb target source at, le-leb (source + count) target behind)
            (range_steps source count (target - source - count) (1 ∷ 2 ∷ 1 ∷ []) r c (omega (arith, there, at, behind)))
      ]
      | inr at ↦ rw (le-leb target source at) (range_steps target (source - target) count (2 ∷ 1 ∷ 2 ∷ []) r c (omega (arith, within, at)))
    ]

move_steps : (source count target : ℕ) (r : List Base) (c : List Cell) → source + count ≤ length c → target ≤ length c - count → StepsRow (row_code (Move source count target) (length r)) r c
move_steps source count target r c within there =
    elim (cases_lt source target) as (λ _. StepsRow (row_code (Move source count target) (length r)) r c) [
      | inl at ↦ rw (lt-leb target source at) (range_steps source count (target - source) (2 ∷ 1 ∷ []) r c (omega (arith, within, there, at)))
      | inr at ↦ rw (le-leb target source at) (range_steps target (source - target) count (2 ∷ 1 ∷ []) r c (omega (arith, within, at)))
    ]

row_steps : (row : PatchRow) (r : List Base) (c : List Cell) → fits (length c) row ≡ true → StepsRow (row_code row (length r)) r c
row_steps (Edit place cut put) r c fit = edit_steps place cut put r c (leb-true (place + cut) (length c) fit)
row_steps (Copy source count target) r c fit =
    let (range, there) = and_parts (nat_le (source + count) (length c)) (nat_le target (length c)) fit in
    copy_steps source count target r c (leb-true (source + count) (length c) range) (leb-true target (length c) there)
row_steps (Move source count target) r c fit =
    let (range, there) = and_parts (nat_le (source + count) (length c)) (nat_le target (length c - count)) fit in
    move_steps source count target r c (leb-true (source + count) (length c) range) (leb-true target (length c - count) there)

-- what it leaves behind the further parts is, in a target, what the row leaves
leaves_splice : (row : PatchRow) (r : List Base) (c : List Cell) (d : List Base) → fits (length (fill d c)) row ≡ true → (step : StepsRow (row_code row (length r)) r c)
    → fill d step.back ≡ splice (fill d c) row
leaves_splice row r c d fit step =
    let code : List Base = row_code row (length r) in
    let z : List Cell = map Known (code ++ r) ++ c in
    let next : List Cell = map Known r ++ step.back in
    let after : List Base = r ++ splice (fill d c) row in
    let limit : ℕ = length next + length after in
    let is : IsAttempt z limit step.attempt = subst (EndsBy z limit step.attempt) (sym step.ends) (step.rewrites, omega arith) in
    let start : fill d z ≡ code ++ (r ++ fill d c) = fill_before d (code ++ r) c ∙ append_assoc code r (fill d c) in
    let made : machine.IsAttempt (code ++ (r ++ fill d c)) limit (filled d step.attempt) =
    subst (λ l. machine.IsAttempt l limit (filled d step.attempt)) start (attempt_is_filled z limit step.attempt d is) in
    let carried : Steps (code ++ (r ++ fill d c)) after limit = row_carries row r (fill d c) limit fit (omega arith) in
    let same = one_attempt (code ++ (r ++ fill d c)) limit (filled d step.attempt) carried.attempt made carried.is in
    let ends : filled_ending d (Matched step.stop next) ≡ machine.Matched carried.stop after =
    sym (ap (filled_ending d) step.ends) ∙ ap (λ a. a.ending) same ∙ carried.ends in
    append_cancel_left r (fill d step.back) (splice (fill d c) row) (sym (fill_before d r step.back) ∙ same_Some (fill d next) after (ap next_dna ends))

-- runs

-- attempts that lead on from cells, as many as wanted and without RNA
record LeadsOnCells (limit : ℕ) (z : List Cell) (count : ℕ) : Type 0 where
  attempts : List Attempt
  last : List Cell
  leads : LeadOn limit z attempts last
  number : length attempts ≡ count
  rna : rna_of attempts ≡ []

leads_first : (r : List Base) (z : List Cell) (limit count : ℕ) (step : StepsBy z r) → length (map Known r ++ step.back) ≤ limit → LeadsOnCells limit (map Known r ++ step.back) count → LeadsOnCells limit z (suc count)
leads_first r z limit count step within further = record {
  attempts = step.attempt ∷ further.attempts;
  last = further.last;
  leads = (subst (EndsBy z limit step.attempt) (sym step.ends) (step.rewrites, within), (map Known r ++ step.back, ap next_cells step.ends, further.leads));
  number = ap suc further.number;
  rna = ap (λ l. l ++ rna_of further.attempts) step.rna ∙ further.rna;
}

leads_on_cells : (rows : List PatchRow) (c : List Cell) (d : List Base) (limit : ℕ) → AllFit (length (fill d c)) rows → StaysWithin limit rows (fill d c) → LeadsOnCells limit (map Known (prefix rows) ++ c) (length rows)
leads_on_cells [] c d limit fit stays = record { attempts = []; last = c; leads = refl; number = refl; rna = refl }
leads_on_cells (row ∷ rows) c d limit fit stays =
    let r : List Base = prefix rows in
    let step : StepsRow (row_code row (length r)) r c = row_steps row r c (subst (λ n. fits n row ≡ true) (length-map c (base_in d)) fit.0) in
    let same : fill d step.back ≡ splice (fill d c) row = leaves_splice row r c d fit.0 step in
    let bound : length (r ++ splice (fill d c) row) ≤ limit = stays 1 (omega arith) in
    let size : length (map Known r ++ step.back) ≡ length (r ++ splice (fill d c) row) =
    sym (length-map (map Known r ++ step.back) (base_in d)) ∙ ap length (fill_before d r step.back ∙ ap (λ l. r ++ l) same) in
    let within : length (map Known r ++ step.back) ≤ limit = omega (arith, bound, size) in
    let left : AllFit (length (fill d step.back)) rows = subst (λ n. AllFit n rows) (sym (ap length same ∙ length-splice row (fill d c) fit.0)) fit.1 in
    leads_first r (map Known (prefix (row ∷ rows)) ++ c) limit (length rows) step within
    (leads_on_cells rows step.back d limit left
    (λ done few. subst (λ l. length (prefix (drop done rows) ++ patched l (take done rows)) ≤ limit) (sym same) (stays (suc done) (omega (arith, few)))))

-- what is told

finished_is_not_budget : (finished : Bool) (attempts : ℕ) → end_of finished attempts ≡ Budget → finished ≡ false
finished_is_not_budget true attempts e = cc
finished_is_not_budget false attempts e = refl

found_is : (a : Explained) (attempts : ℕ) → a.finished ≡ false → a.attempts ≡ attempts → a.rna ≡ [] → a ≡ record { finished = false; attempts = attempts; rna = []; segs = a.segs }
found_is a attempts finished number rna =
    ap (λ x. let r : Explained = record { finished = x; attempts = a.attempts; rna = a.rna; segs = a.segs } in r) finished
    ∙ ap (λ x. let r : Explained = record { finished = false; attempts = x; rna = a.rna; segs = a.segs } in r) number
    ∙ ap (λ x. let r : Explained = record { finished = false; attempts = attempts; rna = x; segs = a.segs } in r) rna

module _ (contents : Contents) (limit : ℕ) (fit : AllFit contents.stated contents.rows) (all : AllStayWithin limit contents) where
  some_target : List Base
  some_target = replicate contents.stated I

  long : length some_target ≡ contents.stated
  unfolding some_target
  long = length-replicate contents.stated I

  on_cells : LeadsOnCells limit (start_cells (prefix contents.rows) contents.stated) (length contents.rows)
  on_cells =
      let c : List Cell = places_from 0 contents.stated in
      let is : fill some_target c ≡ some_target = fill_start [] some_target contents.stated long in
      leads_on_cells contents.rows c some_target limit (subst (λ n. AllFit n contents.rows) (sym (ap length is ∙ long)) fit)
      (subst (StaysWithin limit contents.rows) (sym is) (all some_target long))

  the_run : Run
  the_run = record { end = Budget; attempts = on_cells.attempts; cells = on_cells.last }

  the_run_is : IsRun (start_cells (prefix contents.rows) contents.stated) (length contents.rows) limit the_run
  unfolding the_run
  the_run_is = record { leads = on_cells.leads; all = on_cells.number }

  same_run : (other : Run) → IsRun (start_cells (prefix contents.rows) contents.stated) (length contents.rows) limit other → other ≡ the_run
  same_run other is = one_run limit (length contents.rows) (start_cells (prefix contents.rows) contents.stated) other the_run is the_run_is

  spent : (end : End) → EndsSo (prefix contents.rows) contents.stated (length contents.rows) limit end → end ≡ Budget
  unfolding the_run
  spent end x = sym x.ends ∙ ap (λ r. r.end) (same_run x.run x.is)

  patched_in : (found : Explained) (d : List Base) → Explains (prefix contents.rows) contents.stated (length contents.rows) limit found → length d ≡ contents.stated
      → flat_map (bases_in d) found.segs ≡ patched d contents.rows
  patched_in found d x is =
      let told : IsAsTold (prefix contents.rows) d (length contents.rows) limit found =
      (found_for_every_target (prefix contents.rows) contents.stated (length contents.rows) limit found x).1 d is in
      sym told.dna ∙ ((prefix_carries_out contents fit d limit is (all d is)).leaves told.made told.is).dna

  told_of_patch : (output : Output) (answer : Result Explained ExplainError) → IsExplained (prefix contents.rows) contents.stated (length contents.rows) limit answer
      → output ≡ answered explained_text (told explain_refusal answer) → IsToldOfPatch contents output
  unfolding the_run
  told_of_patch output (Ok found) x tells =
      let same : x.run ≡ the_run = same_run x.run x.is in
      let finished : found.finished ≡ false = finished_is_not_budget found.finished found.attempts (sym x.ends ∙ ap (λ r. r.end) same) in
      let number : found.attempts ≡ length contents.rows = sym x.number ∙ ap (λ r. length r.attempts) same ∙ on_cells.number in
      let rna : found.rna ≡ [] = x.rna ∙ ap (λ r. rna_of r.attempts) same ∙ on_cells.rna in
      record {
        segs = found.segs;
        tells = tells ∙ ap (λ f. answered explained_text (Ok f)) (found_is found (length contents.rows) finished number rna);
        within = (found_for_every_target (prefix contents.rows) contents.stated (length contents.rows) limit found x).0;
        patches = λ d is. patched_in found d x is;
      }
  told_of_patch output (Err (error.Depends attempt)) x tells = let e = spent (run.Depends attempt) x in cc
  told_of_patch output (Err (error.TooLong attempt)) x tells = let e = spent (run.TooLong attempt) x in cc
  told_of_patch output (Err error.NoMemory) x tells = absurd x

  answer_told : (output : Output) (target budget : ℕ) → target ≡ contents.stated → budget ≡ length contents.rows
      → IsAnswer (IsExplanation (prefix contents.rows) target budget limit) explained_text output → IsToldOfPatch contents output
  answer_told output target budget stated each is =
      told_of_patch output is.is.answer
      (subst (λ n. IsExplained (prefix contents.rows) n (length contents.rows) limit is.is.answer) stated
      (subst (λ n. IsExplained (prefix contents.rows) target n limit is.is.answer) each is.is.is))
      (is.tells ∙ ap (answered explained_text) is.is.tells)

  start_within : length (prefix contents.rows) + contents.stated ≤ limit
  start_within =
      let first : length (prefix contents.rows ++ some_target) ≤ limit = all some_target long 0 (omega arith) in
      omega (arith, first, length-append (prefix contents.rows) some_target, long)

pub patch_is_explained : PatchIsExplained
patch_is_explained files later contents asked output kept len attempts all gives =
    let fit : AllFit contents.stated contents.rows = (kept_is_prefix files later contents asked.prefix kept).fit in
    let code : List Base = prefix contents.rows in
    let read : OutputBy (Some (explained asked code)) output =
    subst (λ r. OutputBy (then_read r (λ p. Some (explained asked p))) output) (kept_is_read files later contents file.Prefix asked.prefix kept)
    (output_by later (words.Explain asked) output gives) in
    let short : nat_lt asked.limit (length code + asked.length) ≡ false =
    le-ltb asked.limit (length code + asked.length) (omega (arith, len, start_within contents asked.limit fit all)) in
    let is : IsAnswer (IsExplanation code asked.length asked.attempts asked.limit) explained_text output =
    subst (λ b. OutputBy (Some (if b then Err StartTooLong else Ok (inputs.Explain code asked.length asked.attempts asked.limit))) output) short read in
    answer_told contents asked.limit fit all output asked.length asked.attempts len attempts is
