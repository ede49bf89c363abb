-- A run on cells, attempt by attempt.
use Rattle.std.proofs.Common.{◌≡◌, ℕ, ◌+◌, ◌<◌, ◌≤◌, true, false, Some, Result, Err, List, [], ◌∷◌, ◌++◌, length, arith, refl, sym, ap, subst, ◌∙◌, append-nil, append_assoc, length-append}
use Rattle.fuun_base.specs.declared.letters.Base.{Base}
use Rattle.sym_strand.specs.declared.cells.Cell.{Cell}
use Rattle.sym_strand.specs.Cells.{start_cells}
use Rattle.sym_strand.specs.Segments.{StandFor}
use Rattle.explainer.specs.Attempt.{Attempt, IsAttempt, next_cells}
use Rattle.explainer.specs.Making.{Comes}
use Rattle.explainer.specs.Run.{Finished, Budget, TooLong, Depends, LeadOn, rna_of, end_of, Explains, EndsSo}
use Rattle.explainer.specs.declared.explained.Explained.{Explained}
use Rattle.explainer.specs.declared.explained.ExplainError.{ExplainError}
use Rattle.explainer.specs.declared.explained.ExplainError.TheVariants as error
use Rattle.explainer.specs.declared.attempt.Next.TheVariants as next

-- so many attempts were made, each of which led on
pub record HasMade (start : List Cell) (limit number : ℕ) (z : List Cell) (rna : List (List Base)) : Type 0 where
  pub attempts : List Attempt
  pub leads : LeadOn limit start attempts z
  pub count : length attempts ≡ number
  pub gives : rna ≡ rna_of attempts
  pub within : length z ≤ limit

pub made_none : (start z : List Cell) (limit : ℕ) (rna : List (List Base)) → z ≡ start → length start ≤ limit → rna ≡ [] → HasMade start limit 0 z rna
made_none start z limit rna is within none = record {
  attempts = [];
  leads = sym is;
  count = refl;
  gives = none;
  within = omega (arith, ap length is);
}

lead_more : (limit : ℕ) (start : List Cell) (attempts : List Attempt) (z : List Cell) (attempt : Attempt) (cells : List Cell) → LeadOn limit start attempts z → IsAttempt z limit attempt
    → next_cells attempt.ending ≡ Some cells → LeadOn limit start (attempts ++ attempt ∷ []) cells
lead_more limit start [] z attempt cells leads is goes = (subst (λ e. IsAttempt e limit attempt) (sym leads) is, (cells, goes, refl))
lead_more limit start (first ∷ attempts) z attempt cells leads is goes =
    (leads.0, (leads.1.0, leads.1.1, lead_more limit leads.1.0 attempts z attempt cells leads.1.2 is goes))

rna_of_more : (attempts : List Attempt) (attempt : Attempt) → rna_of (attempts ++ attempt ∷ []) ≡ rna_of attempts ++ attempt.rna
rna_of_more [] attempt = append-nil attempt.rna
rna_of_more (first ∷ attempts) attempt = ap (λ l. first.rna ++ l) (rna_of_more attempts attempt) ∙ sym (append_assoc first.rna (rna_of attempts) attempt.rna)

pub made_more : (start : List Cell) (limit number : ℕ) (z cells : List Cell) (rna rna' : List (List Base)) → HasMade start limit number z rna → Comes z limit rna rna' (next.Cells cells)
    → HasMade start limit (number + 1) cells rna'
made_more start limit number z cells rna rna' made x =
    let a : Attempt = x.0.attempt in
    record {
      attempts = made.attempts ++ a ∷ [];
      leads = lead_more limit start made.attempts z a cells made.leads x.0.is x.0.ends;
      count = omega (arith, length-append made.attempts (a ∷ []), made.count);
      gives = x.0.rna ∙ ap (λ l. l ++ a.rna) made.gives ∙ sym (rna_of_more made.attempts a);
      within = x.1;
    }

module _ (prefix : List Base) (target budget limit : ℕ) where
  pub explains_spent : (z : List Cell) (rna : List (List Base)) (found : Explained) → HasMade (start_cells prefix target) limit budget z rna
      → found.finished ≡ false → found.attempts ≡ budget → found.rna ≡ rna → StandFor found.segs z → Explains prefix target budget limit found
  explains_spent z rna found made finished attempts gives segs = record {
    run = record { end = Budget; attempts = made.attempts; cells = z };
    is = record { leads = made.leads; all = made.count };
    ends = ap (λ b. end_of b found.attempts) (sym finished);
    number = made.count ∙ sym attempts;
    rna = gives ∙ made.gives;
    segs = segs;
  }

  pub explains_finished : (number : ℕ) (z : List Cell) (rna rna' : List (List Base)) (found : Explained) → HasMade (start_cells prefix target) limit number z rna → number < budget
      → Comes z limit rna rna' next.Finished → found.finished ≡ true → found.attempts ≡ number + 1 → found.rna ≡ rna' → StandFor found.segs z → Explains prefix target budget limit found
  explains_finished number z rna rna' found made allowed x finished attempts gives segs =
      let all : List Attempt = made.attempts ++ x.attempt ∷ [] in
      record {
        run = record { end = Finished (number + 1); attempts = all; cells = z };
        is = (
          number,
          refl,
          record {
            earlier = made.attempts;
            last = x.attempt;
            made = refl;
            leads = made.leads;
            number = made.count;
            allowed = allowed;
            attempt = x.is;
            ends = x.ends;
          },
        );
        ends = ap (λ n. Finished n) (sym attempts) ∙ ap (λ b. end_of b found.attempts) (sym finished);
        number = omega (arith, length-append made.attempts (x.attempt ∷ []), made.count, attempts);
        rna = gives ∙ x.rna ∙ ap (λ l. l ++ x.attempt.rna) made.gives ∙ sym (rna_of_more made.attempts x.attempt);
        segs = segs;
      }

  pub ends_too_long : (number : ℕ) (z : List Cell) (rna rna' : List (List Base)) → HasMade (start_cells prefix target) limit number z rna → number < budget
      → Comes z limit rna rna' next.TooLong → EndsSo prefix target budget limit (TooLong number)
  ends_too_long number z rna rna' made allowed x = record {
    run = record { end = TooLong number; attempts = made.attempts ++ x.attempt ∷ []; cells = z };
    is = record {
      earlier = made.attempts;
      last = x.attempt;
      made = refl;
      leads = made.leads;
      number = made.count;
      allowed = allowed;
      attempt = x.is;
      ends = x.ends;
    };
    ends = refl;
  }

  pub ends_depending : (number : ℕ) (z : List Cell) (rna rna' : List (List Base)) → HasMade (start_cells prefix target) limit number z rna → number < budget
      → Comes z limit rna rna' next.Depends → EndsSo prefix target budget limit (Depends number)
  ends_depending number z rna rna' made allowed x = record {
    run = record { end = Depends number; attempts = made.attempts; cells = z };
    is = record { leads = made.leads; number = made.count; allowed = allowed; depends = x };
    ends = refl;
  }

pub same_too_long : (k n : ℕ) → ◌≡◌ {A = Result Explained ExplainError} (Err (error.TooLong k)) (Err (error.TooLong n)) → k ≡ n
same_too_long k n e = cc

pub same_depends : (k n : ℕ) → ◌≡◌ {A = Result Explained ExplainError} (Err (error.Depends k)) (Err (error.Depends n)) → k ≡ n
same_depends k n e = cc
