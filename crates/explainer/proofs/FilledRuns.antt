-- A run on cells is the machine's run for every target.
use Rattle.std.proofs.Common.{◌≡◌, ◌≢◌, ℕ, List, [], ◌∷◌, ◌++◌, length, map, refl, sym, ap, subst, ◌∙◌}
use Rattle.std.proofs.lemmas.List.{length-map, map-append}
use Rattle.fuun_base.specs.declared.letters.Base.{Base}
use Rattle.exec_loop.specs.Run as machine_run
use Rattle.exec_loop.specs.declared.machine.RunEnd.{RunEnd}
use Rattle.exec_loop.specs.declared.machine.RunEnd.TheVariants as run_end
use Rattle.sym_strand.specs.declared.cells.Cell.{Cell}
use Rattle.sym_strand.specs.Cells.{start_cells}
use Rattle.explainer.specs.Filling.{fill}
use Rattle.explainer.specs.Attempt as one
use Rattle.explainer.specs.Attempt.{Attempt, filled, filled_ending}
use Rattle.explainer.specs.Run.{End, Finished, Budget, TooLong, Depends, LeadOn, rna_of, Run, StopsAt, RunsTo}
use Rattle.explainer.specs.Laws.{EndsAlike, RunsAlike, RunIsFilled}
use Rattle.explainer.proofs.Filled.{fill_start}
use Rattle.explainer.proofs.FilledAttempts.{attempt_is_filled, next_filled}

lead_filled : (d : List Base) (limit : ℕ) (z : List Cell) (attempts : List Attempt) (last : List Cell) → LeadOn limit z attempts last
    → machine_run.Leads limit (fill d z) (map (filled d) attempts) (fill d last)
lead_filled d limit z [] last x = ap (fill d) x
lead_filled d limit z (attempt ∷ attempts) last x =
    (attempt_is_filled z limit attempt d x.0, (fill d x.1.0, next_filled d attempt.ending x.1.0 x.1.1, lead_filled d limit x.1.0 attempts last x.1.2))

rna_filled : (d : List Base) (attempts : List Attempt) → machine_run.rna_of (map (filled d) attempts) ≡ rna_of attempts
rna_filled d [] = refl
rna_filled d (attempt ∷ attempts) = ap (λ l. attempt.rna ++ l) (rna_filled d attempts)

-- the machine's run, by its end
made_by : List Base → Run → RunEnd → machine_run.Run
made_by d run end = record { end = end; attempts = map (filled d) run.attempts; rna = rna_of run.attempts; dna = fill d run.cells }

stops_filled : (d : List Base) (z : List Cell) (budget limit : ℕ) (run : Run) (end : RunEnd) (ending : one.Ending) (before : ℕ) → StopsAt z budget limit run ending before
    → machine_run.StopsAt (fill d z) budget limit (made_by d run end) (filled_ending d ending) before
unfolding made_by
stops_filled d z budget limit run end ending before x = record {
  earlier = map (filled d) x.earlier;
  last = filled d x.last;
  made = ap (map (filled d)) x.made ∙ map-append (filled d) x.earlier (x.last ∷ []);
  leads = lead_filled d limit z x.earlier run.cells x.leads;
  number = length-map x.earlier (filled d) ∙ x.number;
  allowed = x.allowed;
  attempt = attempt_is_filled run.cells limit x.last d x.attempt;
  ends = ap (filled_ending d) x.ends;
  rna = sym (rna_filled d run.attempts);
}

alike : (prefix d : List Base) (target budget limit : ℕ) (run : Run) (end : RunEnd) → length d ≡ target
    → machine_run.IsRun (fill d (start_cells prefix target)) budget limit (made_by d run end) → EndsAlike run.end end → RunsAlike prefix d budget limit run
unfolding made_by
alike prefix d target budget limit run end is runs ends = record {
  made = made_by d run end;
  is = subst (λ l. machine_run.IsRun l budget limit (made_by d run end)) (fill_start prefix d target is) runs;
  ends = ends;
  number = length-map run.attempts (filled d);
  rna = refl;
  dna = refl;
}

runs_filled : (prefix d : List Base) (target budget limit : ℕ) (run : Run) (end : End) → run.end ≡ end → length d ≡ target
    → RunsTo (start_cells prefix target) budget limit run end → ((attempt : ℕ) → end ≢ Depends attempt) → RunsAlike prefix d budget limit run
unfolding made_by
runs_filled prefix d target budget limit run Budget ends is x other =
    alike prefix d target budget limit run run_end.Budget is (record {
      leads = lead_filled d limit (start_cells prefix target) run.attempts run.cells x.leads;
      all = length-map run.attempts (filled d) ∙ x.all;
      rna = sym (rna_filled d run.attempts);
    }) (subst (λ e. EndsAlike e run_end.Budget) (sym ends) refl)
runs_filled prefix d target budget limit run (Finished attempts) ends is x other =
    alike prefix d target budget limit run (run_end.Finished attempts) is
    (x.0, x.1, stops_filled d (start_cells prefix target) budget limit run (run_end.Finished attempts) one.Finished x.0 x.2)
    (subst (λ e. EndsAlike e (run_end.Finished attempts)) (sym ends) refl)
runs_filled prefix d target budget limit run (TooLong attempt) ends is x other =
    alike prefix d target budget limit run (run_end.TooLong attempt) is
    (stops_filled d (start_cells prefix target) budget limit run (run_end.TooLong attempt) one.TooLong attempt x)
    (subst (λ e. EndsAlike e (run_end.TooLong attempt)) (sym ends) refl)
runs_filled prefix d target budget limit run (Depends attempt) ends is x other = absurd (other attempt refl)

pub run_is_filled : RunIsFilled
run_is_filled prefix target budget limit run d is x other = runs_filled prefix d target budget limit run run.end refl is x other
