-- Cells have a run for each budget and limit.
use Rattle.std.proofs.Common.{◌≡◌, ℕ, zero, suc, ◌+◌, ◌-◌, ◌⊎◌, inl, inr, Bool, true, false, Some, List, [], ◌∷◌, length, drop, arith, refl, ap}
use Rattle.std.proofs.lemmas.Bool.{cases_lt}
use Rattle.fuun_base.specs.declared.letters.Base.{Base}
use Rattle.dna_items.specs.declared.items.PatItem.{PatItem}
use Rattle.dna_items.specs.declared.items.TplItem.{TplItem}
use Rattle.dna_reader.specs.Pairs.{PairStands, PairGives, ByPair, ByRunningOut}
use Rattle.dna_reader.proofs.PairLemmas.{has_pair}
use Rattle.dna_reader.proofs.TableLemmas.{patterns_are_balanced}
use Rattle.matcher.specs.Groups.{AreGroups}
use Rattle.matcher.specs.Match.{last_place}
use Rattle.matcher.proofs.Grouping.{groups_exist}
use Rattle.sym_strand.specs.declared.cells.Cell.{Cell}
use Rattle.sym_strand.specs.Cells.{known_front}
use Rattle.explainer.specs.Attempt as one
use Rattle.explainer.specs.Attempt.{Ending, Matched, NoMatch, Attempt, ReadsBoth, RanOutOn, Matches, Rewrites, IsAttempt, DependsOn, InReading, InMatching, InTemplate, next_cells}
use Rattle.explainer.specs.Leading.{LeadAlong}
use Rattle.explainer.specs.Replacement.{texts_of, depends_on_target, replaced}
use Rattle.explainer.specs.Run.{End, Finished, Budget, TooLong, Depends, Run, StopsAt, RunsTo, IsRun}
use Rattle.explainer.specs.Answers.{HasAttemptOrDepends, HasRun}
use Rattle.explainer.proofs.Filled.{front_most}
use Rattle.explainer.proofs.CellWays.{Course, Through, Stuck, Open, course_of}

-- attempts

AttemptOrDepends : List Cell → ℕ → Type 0
AttemptOrDepends z limit = ((attempt : Attempt) × IsAttempt z limit attempt) ⊎ DependsOn z

ran_out_on : (z : List Cell) (limit : ℕ) (rna : List (List Base)) → RanOutOn z rna → AttemptOrDepends z limit
unfolding AttemptOrDepends
ran_out_on z limit rna out =
    elim (cases_lt (length (known_front z)) (length z)) [
      | inl short ↦ inr (InReading rna out short)
      | inr whole ↦ inl (
        record { pattern = []; template = []; rna = rna; ending = one.Finished },
        record { ran_out = out; whole = omega (arith, front_most z); no_pattern = refl; no_template = refl },
      )
    ]

module _ (z : List Cell) (limit : ℕ) (pattern : List PatItem) (template : List TplItem) (rna : List (List Base)) (left : List Base) (stands : PairStands (known_front z) pattern template rna left) where
  rest : List Cell
  rest = drop (length (known_front z) - length left) z

  attempt_by : Ending → Attempt
  attempt_by ending = record { pattern = pattern; template = template; rna = rna; ending = ending }

  both_read : (ending : Ending) → ReadsBoth z (attempt_by ending) rest
  unfolding rest attempt_by
  both_read ending = record {
    pattern_rna = stands.pattern_rna;
    template_rna = stands.template_rna;
    middle = stands.middle;
    left = left;
    pattern = stands.reads_pattern;
    template = stands.reads_template;
    rna = stands.whole;
    behind = refl;
  }

  matched : (ending : Ending) (places : List ℕ) (groups : List (ℕ × ℕ)) → LeadAlong rest pattern 0 places → AreGroups pattern (0 ∷ places) groups → Matches z (attempt_by ending) rest places groups
  unfolding attempt_by
  matched ending places groups leads grouped = record { reads = both_read ending; leads = leads; grouped = grouped }

  rewritten : (ending : Ending) (places : List ℕ) (groups : List (ℕ × ℕ)) → LeadAlong rest pattern 0 places → AreGroups pattern (0 ∷ places) groups
      → depends_on_target (texts_of rest groups) template ≡ false
      → Rewrites z (attempt_by ending) (last_place (0 ∷ places)) (replaced rest template groups (last_place (0 ∷ places)))
  unfolding attempt_by
  rewritten ending places groups leads grouped known = record {
    rest = rest;
    places = places;
    groups = groups;
    matches = matched ending places groups leads grouped;
    known = known;
    stops = refl;
    puts = refl;
  }

  by_template : (places : List ℕ) (groups : List (ℕ × ℕ)) → LeadAlong rest pattern 0 places → AreGroups pattern (0 ∷ places) groups
      → (depends : Bool) → depends_on_target (texts_of rest groups) template ≡ depends → AttemptOrDepends z limit
  unfolding attempt_by AttemptOrDepends
  by_template places groups leads grouped true is = inr (InTemplate (attempt_by one.Finished) rest places groups (matched one.Finished places groups leads grouped) is)
  by_template places groups leads grouped false is =
      let stop : ℕ = last_place (0 ∷ places) in
      let next : List Cell = replaced rest template groups stop in
      elim (cases_lt limit (length next)) [
        | inl above ↦ inl (attempt_by one.TooLong, (stop, next, rewritten one.TooLong places groups leads grouped is, above))
        | inr within ↦ inl (attempt_by (Matched stop next), (rewritten (Matched stop next) places groups leads grouped is, omega arith))
      ]

  by_course : Course rest pattern 0 → AttemptOrDepends z limit
  unfolding attempt_by AttemptOrDepends
  by_course (Through places leads) =
      let grouped : (groups : List (ℕ × ℕ)) × AreGroups pattern (0 ∷ places) groups = groups_exist pattern (0 ∷ places) (patterns_are_balanced (known_front z) pattern stands.pattern_rna stands.middle stands.reads_pattern) in
      by_template places grouped.0 leads grouped.1 (depends_on_target (texts_of rest grouped.0) template) refl
  by_course (Stuck fails) = inl (attempt_by (NoMatch rest), record { reads = both_read (NoMatch rest); fails = fails })
  by_course (Open depends) = inr (InMatching (attempt_by one.Finished) rest (both_read one.Finished) depends)

  of_items : AttemptOrDepends z limit
  of_items = by_course (course_of rest pattern 0)

of_pair : (z : List Cell) (limit : ℕ) (rna : List (List Base)) → PairGives (known_front z) rna → AttemptOrDepends z limit
of_pair z limit rna (ByPair pattern template left stands) = of_items z limit pattern template rna left stands
of_pair z limit rna (ByRunningOut runs_out) = ran_out_on z limit rna runs_out

pub attempt_or_depends : HasAttemptOrDepends
unfolding AttemptOrDepends
attempt_or_depends z limit = let pair = has_pair (known_front z) in of_pair z limit pair.0 pair.1

-- runs

later : End → End
later (Finished attempts) = Finished (attempts + 1)
later Budget = Budget
later (TooLong attempt) = TooLong (attempt + 1)
later (Depends attempt) = Depends (attempt + 1)

-- a run behind an attempt
behind : Attempt → Run → Run
behind attempt run = record { end = later run.end; attempts = attempt ∷ run.attempts; cells = run.cells }

stops_behind : (z : List Cell) (budget limit : ℕ) (attempt : Attempt) (next : List Cell) (run : Run) (ending : Ending) (before : ℕ)
    → IsAttempt z limit attempt → next_cells attempt.ending ≡ Some next → StopsAt next budget limit run ending before
    → StopsAt z (suc budget) limit (behind attempt run) ending (before + 1)
unfolding behind
stops_behind z budget limit attempt next run ending before is goes x = record {
  earlier = attempt ∷ x.earlier;
  last = x.last;
  made = ap (λ l. attempt ∷ l) x.made;
  leads = (is, (next, goes, x.leads));
  number = let h = x.number in omega arith;
  allowed = let h = x.allowed in omega arith;
  attempt = x.attempt;
  ends = x.ends;
}

runs_behind : (z : List Cell) (budget limit : ℕ) (attempt : Attempt) (next : List Cell) (run : Run) (end : End)
    → IsAttempt z limit attempt → next_cells attempt.ending ≡ Some next → RunsTo next budget limit run end → RunsTo z (suc budget) limit (behind attempt run) (later end)
unfolding behind later
runs_behind z budget limit attempt next run (Finished attempts) is goes x =
    (x.0 + 1, ap (λ n. n + 1) x.1, stops_behind z budget limit attempt next run one.Finished x.0 is goes x.2)
runs_behind z budget limit attempt next run Budget is goes x = record { leads = (is, (next, goes, x.leads)); all = ap suc x.all }
runs_behind z budget limit attempt next run (TooLong number) is goes x = stops_behind z budget limit attempt next run one.TooLong number is goes x
runs_behind z budget limit attempt next run (Depends number) is goes x = record {
  leads = (is, (next, goes, x.leads));
  number = let h = x.number in omega arith;
  allowed = let h = x.allowed in omega arith;
  depends = x.depends;
}

run_behind : (z : List Cell) (budget limit : ℕ) (attempt : Attempt) (next : List Cell) (run : Run)
    → IsAttempt z limit attempt → next_cells attempt.ending ≡ Some next → IsRun next budget limit run → IsRun z (suc budget) limit (behind attempt run)
unfolding behind
run_behind z budget limit attempt next run is goes x = runs_behind z budget limit attempt next run run.end is goes x

-- the run of one attempt that gives no next cells
last_only : List Cell → Attempt → End → Run
last_only z attempt end = record { end = end; attempts = attempt ∷ []; cells = z }

stops_here : (z : List Cell) (budget limit : ℕ) (attempt : Attempt) (end : End) (ending : Ending) → IsAttempt z limit attempt → attempt.ending ≡ ending → StopsAt z (suc budget) limit (last_only z attempt end) ending 0
unfolding last_only
stops_here z budget limit attempt end ending is ends = record {
  earlier = [];
  last = attempt;
  made = refl;
  leads = refl;
  number = refl;
  allowed = omega arith;
  attempt = is;
  ends = ends;
}

RunOn : List Cell → ℕ → ℕ → Type 0
RunOn z budget limit = (run : Run) × IsRun z budget limit run

run_by : (z : List Cell) (budget limit : ℕ) (attempt : Attempt) (ending : Ending) → IsAttempt z limit attempt → attempt.ending ≡ ending
    → ((next : List Cell) → RunOn next budget limit) → RunOn z (suc budget) limit
unfolding RunOn last_only
run_by z budget limit attempt (Matched stop next) is ends runs =
    (behind attempt (runs next).0, run_behind z budget limit attempt next (runs next).0 is (ap next_cells ends) (runs next).1)
run_by z budget limit attempt (NoMatch next) is ends runs =
    (behind attempt (runs next).0, run_behind z budget limit attempt next (runs next).0 is (ap next_cells ends) (runs next).1)
run_by z budget limit attempt one.TooLong is ends runs =
    (last_only z attempt (TooLong 0), stops_here z budget limit attempt (TooLong 0) one.TooLong is ends)
run_by z budget limit attempt one.Finished is ends runs =
    (last_only z attempt (Finished 1), (0, refl, stops_here z budget limit attempt (Finished 1) one.Finished is ends))

pub has_run : HasRun
unfolding RunOn
has_run limit zero z = (record { end = Budget; attempts = []; cells = z }, record { leads = refl; all = refl })
has_run limit (suc budget) z =
    elim (attempt_or_depends z limit) [
      | inl made ↦ run_by z budget limit made.0 made.0.ending made.1 refl (has_run limit budget)
      | inr depends ↦ (record { end = Depends 0; attempts = []; cells = z }, record { leads = refl; number = refl; allowed = omega arith; depends = depends })
    ]
