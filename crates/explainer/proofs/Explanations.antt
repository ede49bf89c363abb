-- There is one answer for each prefix, target, budget and limit.
use Rattle.std.proofs.Common.{◌≡◌, ◌≢◌, ℕ, ◌+◌, Bool, true, false, Result, Ok, Err, IfOk, List, [], ◌∷◌, length, arith, refl, sym, ap, subst, ◌∙◌}
use Rattle.std.proofs.lemmas.List.{length-append}
use Rattle.fuun_base.specs.declared.letters.Base.{Base}
use Rattle.sym_strand.specs.declared.segments.Seg.{Seg}
use Rattle.sym_strand.specs.Cells.{start_cells}
use Rattle.sym_strand.specs.Segments.{StandFor}
use Rattle.sym_strand.proofs.SegmentLaws.{has_segments, segments_are_one}
use Rattle.explainer.specs.Run.{End, Finished, Budget, TooLong, Depends, Run, RunsTo, IsRun, end_of, rna_of, Explains, EndsSo}
use Rattle.explainer.specs.Answers.{IsExplained, HasExplanation, ExplanationIsOne}
use Rattle.explainer.specs.declared.explained.Explained.{Explained}
use Rattle.explainer.specs.declared.explained.ExplainError.{ExplainError}
use Rattle.explainer.specs.declared.explained.ExplainError.TheVariants as error
use Rattle.explainer.proofs.OneRun.{one_run}
use Rattle.explainer.proofs.CellRuns.{has_run}

-- there is an answer

AnswerFor : List Base → ℕ → ℕ → ℕ → Type 0
AnswerFor prefix target budget limit = (answer : Result Explained ExplainError) × IsExplained prefix target budget limit answer

told : (prefix : List Base) (target budget limit : ℕ) (run : Run) (finished : Bool) (attempts : ℕ) → IsRun (start_cells prefix target) budget limit run
    → run.end ≡ end_of finished attempts → length run.attempts ≡ attempts → AnswerFor prefix target budget limit
unfolding AnswerFor
told prefix target budget limit run finished attempts is ends number =
    let segs : (segs : List Seg) × StandFor segs run.cells = has_segments run.cells in (
      Ok (record { finished = finished; attempts = attempts; rna = rna_of run.attempts; segs = segs.0 }),
      record {
        run = run;
        is = is;
        ends = ends;
        number = number;
        rna = refl;
        segs = segs.1;
      },
    )

by_end : (prefix : List Base) (target budget limit : ℕ) (run : Run) (end : End) → run.end ≡ end → RunsTo (start_cells prefix target) budget limit run end
    → IsRun (start_cells prefix target) budget limit run → AnswerFor prefix target budget limit
unfolding AnswerFor
by_end prefix target budget limit run (Finished attempts) ends x is =
    told prefix target budget limit run true attempts is ends
    (let count = x.2.number in let more : attempts ≡ x.0 + 1 = x.1 in omega (arith, ap length x.2.made, length-append x.2.earlier (x.2.last ∷ [])))
by_end prefix target budget limit run Budget ends x is = told prefix target budget limit run false budget is ends x.all
by_end prefix target budget limit run (TooLong attempt) ends x is = (Err (error.TooLong attempt), record { run = run; is = is; ends = ends })
by_end prefix target budget limit run (Depends attempt) ends x is = (Err (error.Depends attempt), record { run = run; is = is; ends = ends })

pub has_explanation : HasExplanation
unfolding AnswerFor
has_explanation prefix target budget limit =
    let made : (run : Run) × IsRun (start_cells prefix target) budget limit run = has_run limit budget (start_cells prefix target) in
    by_end prefix target budget limit made.0 made.0.end refl made.1 made.1

-- and only one

number_of : End → ℕ
number_of (Finished attempts) = attempts
number_of Budget = 0
number_of (TooLong attempt) = attempt
number_of (Depends attempt) = attempt

same_finished : (a b : Bool) (m n : ℕ) → end_of a m ≡ end_of b n → a ≡ b
same_finished true true m n e = refl
same_finished false false m n e = refl
same_finished true false m n e = cc
same_finished false true m n e = cc

told_not_long : (a : Bool) (m n : ℕ) → end_of a m ≡ TooLong n → ⊥
told_not_long true m n e = cc
told_not_long false m n e = cc

pub told_not_depending : (a : Bool) (m n : ℕ) → end_of a m ≡ Depends n → ⊥
told_not_depending true m n e = cc
told_not_depending false m n e = cc

pub long_not_depending : (m n : ℕ) → TooLong m ≡ Depends n → ⊥
long_not_depending m n e = cc

same_found : (a b : Explained) → a.finished ≡ b.finished → a.attempts ≡ b.attempts → a.rna ≡ b.rna → a.segs ≡ b.segs → a ≡ b
same_found a b finished attempts rna segs =
    ap (λ x. let r : Explained = record { finished = x; attempts = a.attempts; rna = a.rna; segs = a.segs } in r) finished
    ∙ ap (λ x. let r : Explained = record { finished = b.finished; attempts = x; rna = a.rna; segs = a.segs } in r) attempts
    ∙ ap (λ x. let r : Explained = record { finished = b.finished; attempts = b.attempts; rna = x; segs = a.segs } in r) rna
    ∙ ap (λ x. let r : Explained = record { finished = b.finished; attempts = b.attempts; rna = b.rna; segs = x } in r) segs

module _ (prefix : List Base) (target budget limit : ℕ) where
  same_runs : (a b : Run) → IsRun (start_cells prefix target) budget limit a → IsRun (start_cells prefix target) budget limit b → a ≡ b
  same_runs a b x y = one_run limit budget (start_cells prefix target) a b x y

  found_once : (a b : Explained) → Explains prefix target budget limit a → Explains prefix target budget limit b → a ≡ b
  found_once a b x y =
      let e : x.run ≡ y.run = same_runs x.run y.run x.is y.is in
      same_found a b
      (same_finished a.finished b.finished a.attempts b.attempts (sym x.ends ∙ ap (λ r. r.end) e ∙ y.ends))
      (sym x.number ∙ ap (λ r. length r.attempts) e ∙ y.number)
      (x.rna ∙ ap (λ r. rna_of r.attempts) e ∙ sym y.rna)
      (segments_are_one y.run.cells a.segs b.segs (subst (λ r. StandFor a.segs r.cells) e x.segs) y.segs)

  same_ends : (m n : End) → EndsSo prefix target budget limit m → EndsSo prefix target budget limit n → m ≡ n
  same_ends m n x y = sym x.ends ∙ ap (λ r. r.end) (same_runs x.run y.run x.is y.is) ∙ y.ends

  found_ends : (a : Explained) → Explains prefix target budget limit a → EndsSo prefix target budget limit (end_of a.finished a.attempts)
  found_ends a x = record { run = x.run; is = x.is; ends = x.ends }

pub explanation_is_one : ExplanationIsOne
unfolding number_of
explanation_is_one prefix target budget limit (Ok a) (Ok b) x y = ap (λ found. Ok found) (found_once prefix target budget limit a b x y)
explanation_is_one prefix target budget limit (Ok a) (Err (error.Depends n)) x y =
    absurd (told_not_depending a.finished a.attempts n (same_ends prefix target budget limit (end_of a.finished a.attempts) (Depends n) (found_ends prefix target budget limit a x) y))
explanation_is_one prefix target budget limit (Ok a) (Err (error.TooLong n)) x y =
    absurd (told_not_long a.finished a.attempts n (same_ends prefix target budget limit (end_of a.finished a.attempts) (TooLong n) (found_ends prefix target budget limit a x) y))
explanation_is_one prefix target budget limit (Ok a) (Err error.NoMemory) x y = absurd y
explanation_is_one prefix target budget limit (Err (error.Depends m)) (Ok b) x y =
    absurd (told_not_depending b.finished b.attempts m (same_ends prefix target budget limit (end_of b.finished b.attempts) (Depends m) (found_ends prefix target budget limit b y) x))
explanation_is_one prefix target budget limit (Err (error.Depends m)) (Err (error.Depends n)) x y =
    ap (λ k. Err (error.Depends k)) (ap number_of (same_ends prefix target budget limit (Depends m) (Depends n) x y))
explanation_is_one prefix target budget limit (Err (error.Depends m)) (Err (error.TooLong n)) x y =
    absurd (long_not_depending n m (same_ends prefix target budget limit (TooLong n) (Depends m) y x))
explanation_is_one prefix target budget limit (Err (error.Depends m)) (Err error.NoMemory) x y = absurd y
explanation_is_one prefix target budget limit (Err (error.TooLong m)) (Ok b) x y =
    absurd (told_not_long b.finished b.attempts m (same_ends prefix target budget limit (end_of b.finished b.attempts) (TooLong m) (found_ends prefix target budget limit b y) x))
explanation_is_one prefix target budget limit (Err (error.TooLong m)) (Err (error.Depends n)) x y =
    absurd (long_not_depending m n (same_ends prefix target budget limit (TooLong m) (Depends n) x y))
explanation_is_one prefix target budget limit (Err (error.TooLong m)) (Err (error.TooLong n)) x y =
    ap (λ k. Err (error.TooLong k)) (ap number_of (same_ends prefix target budget limit (TooLong m) (TooLong n) x y))
explanation_is_one prefix target budget limit (Err (error.TooLong m)) (Err error.NoMemory) x y = absurd y
explanation_is_one prefix target budget limit (Err error.NoMemory) b x y = absurd x

-- what is answered where there was memory

pub is_explained : (prefix : List Base) (target budget limit : ℕ) (answer : Result Explained ExplainError) → IfOk answer (Explains prefix target budget limit)
    → ((attempt : ℕ) → answer ≡ Err (error.Depends attempt) → EndsSo prefix target budget limit (Depends attempt))
    → ((attempt : ℕ) → answer ≡ Err (error.TooLong attempt) → EndsSo prefix target budget limit (TooLong attempt))
    → answer ≢ Err error.NoMemory → IsExplained prefix target budget limit answer
is_explained prefix target budget limit (Ok found) explains depends long memory = explains
is_explained prefix target budget limit (Err (error.Depends attempt)) explains depends long memory = depends attempt refl
is_explained prefix target budget limit (Err (error.TooLong attempt)) explains depends long memory = long attempt refl
is_explained prefix target budget limit (Err error.NoMemory) explains depends long memory = memory refl
