-- Sources, a statement at a time.
use Rattle.std.proofs.Common.{◌≡◌, ℕ, Option, Some, None, Result, Ok, List, [], ◌∷◌, refl, ap, subst, sym, ◌∙◌}
use Rattle.std.specs.Prelude.{MatchOption}
use Rattle.source_tokens.specs.declared.statements.Statement.{Statement}
use Rattle.source_tokens.specs.Statements.{statements}
use Rattle.source_text.specs.declared.judging.Refusal.{Refusal}
use Rattle.source_text.specs.declared.names.Known.{Known}
use Rattle.source_text.specs.declared.taking.Reading.{Reading}
use Rattle.source_text.specs.Judging.{Placed, state}
use Rattle.source_text.specs.Keeping.{AreKnown}
use Rattle.source_text.specs.Names.{Names, first_meanings}
use Rattle.source_text.specs.Sources.{Labels, and_taken, labels, labels_of, labels_with, lines_of, taken_all}
use Rattle.source_text.specs.Taking.{AreKept, IsTaken}

-- the next of the statements that are left

pub next_some : (next : Option Statement) (statement : Statement) (old new : List Statement) → next ≡ Some statement → MatchOption next ((old ≡ []) × (new ≡ [])) (λ s. old ≡ s ∷ new) → old ≡ statement ∷ new
next_some next statement old new is matched = subst (λ n. MatchOption n ((old ≡ []) × (new ≡ [])) (λ s. old ≡ s ∷ new)) is matched

pub next_none : (next : Option Statement) (old new : List Statement) → next ≡ None → MatchOption next ((old ≡ []) × (new ≡ [])) (λ s. old ≡ s ∷ new) → old ≡ []
next_none next old new is matched = (subst (λ n. MatchOption n ((old ≡ []) × (new ≡ [])) (λ s. old ≡ s ∷ new)) is matched).0

-- labels as far as they are known

pub record LabelsKnown (limit lines : ℕ) (known : List Known) (names : Names) (all left : List Statement) : Type 0 where
  pub now : Names
  pub is : AreKnown limit known now
  pub goes : labels_of (labels names 0) all ≡ labels_of (labels now lines) left

pub labels_first : (limit : ℕ) (known : List Known) (names : Names) (all : List Statement) → AreKnown limit known names → LabelsKnown limit 0 known names all all
labels_first limit known names all is = record { now = names; is = is; goes = refl }

step : (before : Labels) (left more : List Statement) (statement : Statement) → left ≡ statement ∷ more → labels_of before left ≡ labels_of (labels_with before statement.tokens) more
unfolding labels_of
step before left more statement is = rw is refl

last : (before : Labels) (left : List Statement) → left ≡ [] → labels_of before left ≡ before.names
unfolding labels_of
last before left none = rw none refl

pub labels_more : (limit lines next : ℕ) (known new : List Known) (names : Names) (all left more : List Statement) (statement : Statement) → left ≡ statement ∷ more
    → ((x : Names) → AreKnown limit known x → AreKnown limit new (labels_with (labels x lines) statement.tokens).names) → ((x : Names) → next ≡ (labels_with (labels x lines) statement.tokens).lines)
    → LabelsKnown limit lines known names all left → LabelsKnown limit next new names all more
labels_more limit lines next known new names all left more statement is knows counts before = record {
  now = (labels_with (labels before.now lines) statement.tokens).names;
  is = knows before.now before.is;
  goes = before.goes ∙ step (labels before.now lines) left more statement is ∙ ap (λ n. labels_of (labels (labels_with (labels before.now lines) statement.tokens).names n) more) (sym (counts before.now));
}

pub labels_end : (limit lines : ℕ) (known : List Known) (names : Names) (all left : List Statement) → left ≡ [] → LabelsKnown limit lines known names all left → AreKnown limit known (labels_of (labels names 0) all)
labels_end limit lines known names all left none before =
    subst (λ n. AreKnown limit known n) (sym (before.goes ∙ last (labels before.now lines) left none)) before.is

-- lines of all statements

pub lines_taken : (limit : ℕ) (source : List ℕ) (reading : Reading) (read : Result (Unit {0}) Refusal) (done : Unit {0}) → reading.limit ≡ limit → read ≡ Ok done
    → IsTaken reading read (taken_all limit (state (labels_of (labels first_meanings 0) (statements source)) []) (statements source))
    → (all : List Placed) × (lines_of limit source ≡ Ok all) × AreKept limit reading.lines reading.places all
lines_taken limit source reading read done same is taken =
    let first = state (labels_of (labels first_meanings 0) (statements source)) [] in
    let t = subst (λ r. IsTaken reading r (taken_all limit first (statements source))) is taken in
    (t.0.lines, ap (λ r. and_taken r (λ all. Ok all.lines)) t.1, subst (λ l. AreKept l reading.lines reading.places t.0.lines) same t.2.lines)
