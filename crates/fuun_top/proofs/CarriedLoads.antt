-- The run on a load carries its patches out.
use Rattle.std.proofs.Common.{◌≡◌, ℕ, zero, suc, ◌+◌, ◌*◌, ◌-◌, ◌<◌, ◌≤◌, ◌^◌, Some, List, [], ◌∷◌, ◌++◌, length, take, drop, arith, refl, sym, ap, ◌∙◌, subst, length-append}
use Rattle.fuun_base.specs.declared.letters.Base.{Base}
use Rattle.exec_loop.specs.declared.machine.RunEnd.TheVariants.{Budget}
use Rattle.exec_loop.specs.Attempt.{Attempt, EndsBy, Matched, next_dna}
use Rattle.exec_loop.specs.Run.{Leads, Run, IsRun}
use Rattle.exec_loop.proofs.Runs.{one_run}
use Rattle.patch_text.specs.declared.rows.PatchRow.{PatchRow}
use Rattle.patch_text.specs.Lengths.{AllFit, length_after, length_behind}
use Rattle.patch_compile.specs.Code.{prefix, row_code}
use Rattle.patch_compile.specs.Law.{AreMatching, StaysWithin}
use Rattle.patch_compile.specs.Splice.{patched, splice}
use Rattle.patch_compile.proofs.Carried.{LeadsOn, leads_on}
use Rattle.patch_compile.proofs.Lengths.{length-splice}
use Rattle.workload.specs.declared.summary.Summary.{Summary}
use Rattle.workload.specs.Load.{patches_of, rows_drawn, target_of}
use Rattle.workload.specs.Numbers.{behind}
use Rattle.workload.specs.Summary.{summary_text}
use Rattle.workload.proofs.Rows.{all_fit, length-rows_drawn, lengths_stay}
use Rattle.fuun_top.specs.Bench.{load_dna, load_limit, summary_of}
use Rattle.fuun_top.specs.BenchLaws.{CarriesOutLoad, LoadsAreCarriedOut, LoadsAreSummedUp, StayShorter, load_patched, summary_left}
use Rattle.fuun_top.specs.Output.{IsBenchOutput}
use Rattle.fuun_top.specs.declared.status.Status.TheVariants.{Done}
use Rattle.fuun_words.specs.declared.request.Request.TheVariants as words
use Rattle.fuun_top.proofs.LoadLemmas.{prefix_short, target_counted}
use Rattle.fuun_top.proofs.ReadBack.{output_by}

-- attempts that match under a lower limit lead to the same DNA under a higher one, which none on the way reaches
record Way (high : ℕ) (d last : List Base) (attempts : List Attempt) : Type 0 where
  leads : Leads high d attempts last
  shorter : StayShorter high d attempts

way : (low high : ℕ) (d last : List Base) (attempts : List Attempt) → low < high → length d ≤ low → AreMatching attempts → Leads low d attempts last → Way high d last attempts
way low high d last [] less short matching leads = record { leads = leads; shorter = omega (arith, less, short) }
way low high d last (attempt ∷ attempts) less short ((stop, found, ends), matching) (is, (next, given, further)) =
    let matched : EndsBy d low attempt (Matched stop found) = subst (λ e. EndsBy d low attempt e) ends is in
    let same : Some next ≡ Some found = sym given ∙ ap next_dna ends in
    let within : length next ≤ low = subst (λ (n : List Base). length n ≤ low) (let e : found ≡ next = cc in e) matched.1 in
    let on = way low high next last attempts less within matching further in
    let higher : EndsBy d high attempt (Matched stop found) = (matched.0, omega (arith, matched.1, less)) in
    record {
      leads = (subst (λ e. EndsBy d high attempt e) (sym ends) higher, (next, given, on.leads));
      shorter = (omega (arith, less, short), (next, given, on.shorter));
    }

-- the parts of the rows that are left are no longer than those of all
left_short : (done : ℕ) (rows : List PatchRow) → length (prefix (drop done rows)) ≤ length (prefix rows)
left_short zero rows = omega arith
left_short (suc done) [] = omega arith
left_short (suc done) (row ∷ rows) = omega (arith, left_short done rows, length-append (row_code row (length (prefix rows))) (prefix rows))

-- how long a DNA is that some of the rows leave
length-patched : (rows : List PatchRow) (d : List Base) (done : ℕ) → AllFit (length d) rows → length (patched d (take done rows)) ≡ length_behind (length d) (take done rows)
length-patched rows d zero fit = refl
length-patched [] d (suc done) fit = refl
length-patched (row ∷ rows) d (suc done) fit =
    let sizes : length (splice d row) ≡ length_after (length d) row = length-splice row d fit.0 in
    length-patched rows (splice d row) done (subst (λ n. AllFit n rows) (sym sizes) fit.1) ∙ ap (λ n. length_behind n (take done rows)) sizes

module _ (seed size rounds : ℕ) (small : size ≤ 2 ^ 24) (few : rounds ≤ 2 ^ 16) where
  abbrev rows : List PatchRow
  rows = rows_drawn rounds size (behind size seed)

  abbrev low : ℕ
  low = 2 ^ 26 - 1

  is_rows : (patches_of seed size rounds).rows ≡ rows
  unfolding patches_of
  is_rows = refl

  fit : AllFit (length (target_of seed size)) rows
  fit = subst (λ n. AllFit n rows) (sym (target_counted seed size)) (all_fit rounds size (behind size seed))

  short : length (prefix rows) ≤ 65 * rounds
  short = subst (λ (r : List PatchRow). length (prefix r) ≤ 65 * rounds) is_rows (prefix_short seed size rounds small few)

  behind_short : (done : ℕ) → length (patched (target_of seed size) (take done rows)) ≤ size + 7 * rounds
  behind_short done =
      let sizes = length-patched rows (target_of seed size) done fit in
      let same : length_behind (length (target_of seed size)) (take done rows) ≡ length_behind size (take done rows) = ap (λ n. length_behind n (take done rows)) (target_counted seed size) in
      omega (arith, sizes, same, lengths_stay rounds done size (behind size seed))

  stays : StaysWithin low rows (target_of seed size)
  stays done inside =
      omega (arith, length-append (prefix (drop done rows)) (patched (target_of seed size) (take done rows)), left_short done rows, short, behind_short done, small, few)

  on : LeadsOn low (prefix rows ++ target_of seed size) (patched (target_of seed size) rows) (length rows)
  on = leads_on rows (target_of seed size) low fit stays

  start_short : length (prefix rows ++ target_of seed size) ≤ low
  start_short = stays 0 (omega arith)

  onward : Way load_limit (prefix rows ++ target_of seed size) (patched (target_of seed size) rows) on.attempts
  onward = way low load_limit (prefix rows ++ target_of seed size) (patched (target_of seed size) rows) on.attempts (omega arith) start_short on.matching on.leads

  abbrev load_run : Run
  load_run = record { end = Budget; attempts = on.attempts; rna = []; dna = patched (target_of seed size) rows }

  counted : length on.attempts ≡ rounds
  counted = on.number ∙ length-rows_drawn rounds size (behind size seed)

  runs : IsRun (load_dna seed size rounds) rounds load_limit load_run
  runs = subst (λ (r : List PatchRow). IsRun (prefix r ++ target_of seed size) rounds load_limit load_run) (sym is_rows)
      (record { leads = onward.leads; all = counted; rna = sym on.rna })

  carries : CarriesOutLoad seed size rounds load_run
  carries = record {
    leaves = record { end = refl; matching = on.matching; rna = refl; dna = ap (λ (r : List PatchRow). patched (target_of seed size) r) (sym is_rows) };
    attempts = counted;
    shorter = subst (λ (r : List PatchRow). StayShorter load_limit (prefix r ++ target_of seed size) on.attempts) (sym is_rows) onward.shorter;
  }

  each_carries : (run : Run) → IsRun (load_dna seed size rounds) rounds load_limit run → CarriesOutLoad seed size rounds run
  each_carries run is =
      subst (CarriesOutLoad seed size rounds) (one_run load_limit rounds (load_dna seed size rounds) load_run run runs is) carries

pub loads_are_carried_out : LoadsAreCarriedOut
loads_are_carried_out seed size rounds range =
    ((load_run seed size rounds range.1 range.2, runs seed size rounds range.1 range.2), each_carries seed size rounds range.1 range.2)

summary_is : (run : Run) (attempts : ℕ) (left : List Base) → length run.attempts ≡ attempts → run.rna ≡ [] → run.dna ≡ left → summary_of run ≡ summary_left attempts left
summary_is run attempts left counted none dna = rw (counted, none, dna) refl

pub loads_are_summed_up : LoadsAreSummedUp
loads_are_summed_up files seed size rounds output range gives =
    let made : IsBenchOutput seed size rounds output = output_by files (words.Bench seed size rounds) output gives in
    let carried = each_carries seed size rounds range.1 range.2 made.run made.is in
    made.tells
    ∙ ap (λ (s : Summary). record { status = Done; bytes = summary_text s }) (summary_is made.run rounds (load_patched seed size rounds) carried.attempts carried.leaves.rna carried.leaves.dna)
