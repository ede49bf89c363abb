-- The prefix carries its rows out.
use Rattle.std.proofs.Common.{◌≡◌, ℕ, suc, List, [], ◌∷◌, ◌++◌, length, arith, refl, sym, ap, subst}
use Rattle.std.proofs.lemmas.List.{append_assoc}
use Rattle.fuun_base.specs.declared.letters.Base.{Base}
use Rattle.exec_loop.specs.declared.machine.RunEnd.TheVariants.{Budget}
use Rattle.exec_loop.specs.Attempt.{Attempt, next_dna}
use Rattle.exec_loop.specs.Run.{Leads, rna_of, Run, IsRun}
use Rattle.exec_loop.proofs.Runs.{one_run}
use Rattle.patch_text.specs.declared.rows.PatchRow.{PatchRow}
use Rattle.patch_text.specs.Lengths.{length_after, AllFit}
use Rattle.patch_compile.specs.Code.{row_code, prefix}
use Rattle.patch_compile.specs.Law.{StaysWithin, AreMatching, Leaves, RunLeaves, PrefixCarriesOut}
use Rattle.patch_compile.specs.Splice.{splice, patched}
use Rattle.patch_compile.proofs.Attempts.{Steps}
use Rattle.patch_compile.proofs.Lengths.{length-splice}
use Rattle.patch_compile.proofs.Rows.{row_carries}

-- attempts that lead from a DNA to another, as many as wanted, each matching and without RNA
pub record LeadsOn (limit : ℕ) (start last : List Base) (count : ℕ) : Type 0 where
  pub attempts : List Attempt
  pub leads : Leads limit start attempts last
  pub number : length attempts ≡ count
  pub matching : AreMatching attempts
  pub rna : rna_of attempts ≡ []

leads_on_first : (limit : ℕ) (start next last : List Base) (count : ℕ) → Steps start next limit → LeadsOn limit next last count → LeadsOn limit start last (suc count)
leads_on_first limit start next last count step further = record {
  attempts = step.attempt ∷ further.attempts;
  leads = (step.is, (next, ap next_dna step.ends, further.leads));
  number = ap suc further.number;
  matching = ((step.stop, next, step.ends), further.matching);
  rna = rw (step.rna) further.rna;
}

pub leads_on : (rows : List PatchRow) (d : List Base) (limit : ℕ) → AllFit (length d) rows → StaysWithin limit rows d → LeadsOn limit (prefix rows ++ d) (patched d rows) (length rows)
leads_on [] d limit fit stays = record { attempts = []; leads = refl; number = refl; matching = tt; rna = refl }
leads_on (row ∷ rows) d limit fit stays =
    let r : List Base = prefix rows in
    let step : Steps (row_code row (length r) ++ (r ++ d)) (r ++ splice d row) limit = row_carries row r d limit fit.0 (stays 1 (omega arith)) in
    let sizes : length (splice d row) ≡ length_after (length d) row = length-splice row d fit.0 in
    let left : AllFit (length (splice d row)) rows = subst (λ n. AllFit n rows) (sym sizes) fit.1 in
    let further = leads_on rows (splice d row) limit left (λ done few. stays (suc done) (omega (arith, few))) in
    leads_on_first limit (prefix (row ∷ rows) ++ d) (r ++ splice d row) (patched (splice d row) rows) (length rows)
    (subst (λ l. Steps l (r ++ splice d row) limit) (sym (append_assoc (row_code row (length r)) r d)) step)
    further

run_leaves : (start last : List Base) (count limit : ℕ) → LeadsOn limit start last count → RunLeaves start count limit last
run_leaves start last count limit on =
    let run : Run = record { end = Budget; attempts = on.attempts; rna = []; dna = last } in
    let is : IsRun start count limit run = record { leads = on.leads; all = on.number; rna = sym on.rna } in
    let leaves : Leaves run last = record { end = refl; matching = on.matching; rna = refl; dna = refl } in
    record {
      run = run;
      is = is;
      leaves = λ other runs. subst (λ x. Leaves x last) (one_run limit count start run other is runs) leaves;
    }

pub prefix_carries_out : PrefixCarriesOut
prefix_carries_out contents fit d limit long stays =
    let fits_d : AllFit (length d) contents.rows = subst (λ n. AllFit n contents.rows) (sym long) fit in
    run_leaves (prefix contents.rows ++ d) (patched d contents.rows) (length contents.rows) limit (leads_on contents.rows d limit fits_d stays)
