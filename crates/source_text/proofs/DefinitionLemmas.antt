-- Definitions, a parameter at a time.
use Rattle.std.proofs.Common.{◌≡◌, ◌≢◌, ℕ, suc, ◌+◌, ◌<◌, Bool, true, false, Option, Some, None, List, [], ◌∷◌, inl, inr, length, drop, get_or, ◌≤◌, arith, refl, sym, ap, ◌∙◌, subst, add-one, drop-cons}
use Rattle.std.specs.Prelude.{if◌then◌else◌}
use Rattle.std.proofs.lemmas.Bool.{cases_eq, eq-eqb, ne_eqb}
use Rattle.std.proofs.lemmas.List.{drop_all}
use Rattle.source_tokens.specs.declared.words.Token.{Token}
use Rattle.source_text.specs.declared.faults.Faults.{Faults}
use Rattle.source_text.specs.declared.forms.Spot.{Spot}
use Rattle.source_text.specs.declared.held.Held.{Held}
use Rattle.source_text.specs.declared.names.Known.{Known}
use Rattle.source_text.specs.declared.names.Known.TheVariants as known
use Rattle.source_text.specs.declared.pieces.Item.TheVariants.{Given}
use Rattle.source_text.specs.Forming.{AreParameters}
use Rattle.source_text.specs.Forms.{with_parameters}
use Rattle.source_text.specs.Judging.{known_faults}
use Rattle.source_text.specs.Keeping.{AreKnown, IsHeld, IsMeant}
use Rattle.source_text.specs.Names.{Meaning, Names, Definition, Label, Reserved, Unknown, is_unknown, with_meaning}
use Rattle.source_text.specs.Pieces.{piece_at}
use Rattle.source_text.specs.Reading.{bad_name, both_faults, earlier, no_faults}

-- faults

earlier_assoc : (a b c : Option ℕ) → earlier (earlier a b) c ≡ earlier a (earlier b c)
earlier_assoc None b c = refl
earlier_assoc (Some n) None c = refl
earlier_assoc (Some n) (Some m) None = refl
earlier_assoc (Some n) (Some m) (Some k) = ap (λ x. Some x) (omega arith)

both_assoc : (a b c : Faults) → both_faults (both_faults a b) c ≡ both_faults a (both_faults b c)
both_assoc a b c = rw (earlier_assoc a.name b.name c.name, earlier_assoc a.number b.number c.number) refl

earlier_none : (a : Option ℕ) → earlier a None ≡ a
earlier_none None = refl
earlier_none (Some n) = refl

both_none : (a : Faults) → both_faults a no_faults ≡ a
both_none a = rw (earlier_none a.name, earlier_none a.number) refl

abbrev pub name_fault : Bool → ℕ → Faults
name_fault unknown at = if unknown then no_faults else bad_name at

-- which names are unknown decides

set_alike : (a b : Names) (id : ℕ) (m n : Meaning) → is_unknown m ≡ is_unknown n → ((k : ℕ) → is_unknown (a k) ≡ is_unknown (b k)) → (k : ℕ)
    → is_unknown (with_meaning a id m k) ≡ is_unknown (with_meaning b id n k)
set_alike a b id m n set same k =
    elim (cases_eq k id) [
      | inl here ↦ rw (eq-eqb k id here) set
      | inr other ↦ rw (ne_eqb k id other) (same k)
    ]

known_first : (names : Names) (name : Spot) (more : List Spot) → known_faults names (name ∷ more) ≡ both_faults (name_fault (is_unknown (names name.id)) name.at) (known_faults (with_meaning names name.id Reserved) more)
unfolding known_faults
known_first names name more = refl

known_none : (names : Names) → known_faults names [] ≡ no_faults
unfolding known_faults
known_none names = refl

known_alike : (list : List Spot) (a b : Names) → ((k : ℕ) → is_unknown (a k) ≡ is_unknown (b k)) → known_faults a list ≡ known_faults b list
known_alike [] a b same = known_none a ∙ sym (known_none b)
known_alike (name ∷ more) a b same =
    known_first a name more
    ∙ ap (λ t. both_faults (name_fault t name.at) (known_faults (with_meaning a name.id Reserved) more)) (same name.id)
    ∙ ap (λ f. both_faults (name_fault (is_unknown (b name.id)) name.at) f) (known_alike more (with_meaning a name.id Reserved) (with_meaning b name.id Reserved) (set_alike a b name.id Reserved Reserved refl same))
    ∙ sym (known_first b name more)

-- a name alone

pub known_one : (names : Names) (name : Spot) → known_faults names (name ∷ []) ≡ name_fault (is_unknown (names name.id)) name.at
known_one names name =
    known_first names name [] ∙ ap (λ f. both_faults (name_fault (is_unknown (names name.id)) name.at) f) (known_none (with_meaning names name.id Reserved))
    ∙ both_none (name_fault (is_unknown (names name.id)) name.at)

pub one_unknown : (names : Names) (name : Spot) → is_unknown (names name.id) ≡ true → known_faults names (name ∷ []) ≡ no_faults
one_unknown names name is = known_one names name ∙ rw is refl

pub one_known : (names : Names) (name : Spot) → is_unknown (names name.id) ≡ false → known_faults names (name ∷ []) ≡ bad_name name.at
one_known names name is = known_one names name ∙ rw is refl

-- parameters that are known so far

abbrev given : ℕ → Meaning
given k = Definition 0 (piece_at 0 (Given k) ∷ [])

pub record ParametersFound (limit : ℕ) (names : Names) (all : List Spot) (known : List Known) (faults : Faults) (k : ℕ) (left : List Spot) : Type 0 where
  pub now : Names
  pub are : AreKnown limit known now
  pub goes : with_parameters 0 names all ≡ with_parameters k now left
  pub judged : known_faults names all ≡ both_faults faults (known_faults now left)

pub parameters_first : (limit : ℕ) (names : Names) (all : List Spot) (known : List Known) → AreKnown limit known names → ParametersFound limit names all known no_faults 0 all
parameters_first limit names all known are = record { now = names; are = are; goes = refl; judged = refl }

pub is_parameter : (limit k : ℕ) (held : Held) → IsHeld limit held (piece_at 0 (Given k) ∷ []) → IsMeant limit (known.Definition 0 held) (given k)
is_parameter limit k held is = record { same = refl; is = is; whole = λ some. absurd (omega (arith, some)) }

next_spot : (all : List Spot) (i : ℕ) (d : Spot) → i < length all → drop i all ≡ get_or all i d ∷ drop (i + 1) all
next_spot all i d within = rw (add-one, drop-cons all i d within) refl

goes_first : (k : ℕ) (names : Names) (name : Spot) (more : List Spot) → with_parameters k names (name ∷ more) ≡ with_parameters (suc k) (with_meaning names name.id (given k)) more
unfolding with_parameters
goes_first k names name more = refl

pub parameters_more : (limit : ℕ) (names : Names) (all : List Spot) (known next : List Known) (faults found : Faults) (k : ℕ) (d : Spot) → k < length all
    → ((now : Names) → AreKnown limit known now → found ≡ known_faults now (get_or all k d ∷ [])) → ((now : Names) → AreKnown limit known now → AreKnown limit next (with_meaning now (get_or all k d).id (given k)))
    → ParametersFound limit names all known faults k (drop k all) → ParametersFound limit names all next (both_faults faults found) (k + 1) (drop (k + 1) all)
parameters_more limit names all known next faults found k d within tells sets before =
    let name : Spot = get_or all k d in
    let now : Names = with_meaning before.now name.id (given k) in
    let rest : List Spot = drop (k + 1) all in
    let first : Faults = name_fault (is_unknown (before.now name.id)) name.at in
    let here : drop k all ≡ name ∷ rest = next_spot all k d within in
    let told : found ≡ first = tells before.now before.are ∙ known_one before.now name in
    let alike : known_faults (with_meaning before.now name.id Reserved) rest ≡ known_faults now rest =
    known_alike rest (with_meaning before.now name.id Reserved) now (set_alike before.now before.now name.id Reserved (given k) refl (λ id. refl)) in
    record {
      now = now;
      are = sets before.now before.are;
      goes = before.goes ∙ ap (λ l. with_parameters k before.now l) here ∙ goes_first k before.now name rest ∙ ap (λ n. with_parameters n now rest) (omega arith);
      judged =
          before.judged ∙ ap (λ l. both_faults faults (known_faults before.now l)) here ∙ ap (λ f. both_faults faults f) (known_first before.now name rest)
          ∙ ap (λ f. both_faults faults (both_faults first f)) alike
          ∙ sym (both_assoc faults first (known_faults now rest)) ∙ ap (λ f. both_faults (both_faults faults f) (known_faults now rest)) (sym told);
    }

goes_none : (k : ℕ) (names : Names) → with_parameters k names [] ≡ names
unfolding with_parameters
goes_none k names = refl

pub parameters_all : (limit : ℕ) (names : Names) (all : List Spot) (known : List Known) (faults : Faults) (k : ℕ) → length all ≤ k → ParametersFound limit names all known faults k (drop k all) → AreParameters limit names all known faults
parameters_all limit names all known faults k past before =
    let none : drop k all ≡ [] = drop_all k all past in
    let goes : with_parameters 0 names all ≡ before.now = before.goes ∙ ap (λ l. with_parameters k before.now l) none ∙ goes_none k before.now in
    record {
      are = subst (λ n. AreKnown limit known n) (sym goes) before.are;
      told = sym (before.judged ∙ ap (λ l. both_faults faults (known_faults before.now l)) none ∙ ap (λ f. both_faults faults f) (known_none before.now) ∙ both_none faults);
    }

-- parameters that are forgotten

is_unknown_eq : (m : Meaning) → is_unknown m ≡ true → m ≡ Unknown
is_unknown_eq Unknown is = refl
is_unknown_eq Reserved is = cc
is_unknown_eq (Definition count pieces) is = cc
is_unknown_eq (Label line twice) is = cc

set_here : (names : Names) (id k : ℕ) (m : Meaning) → k ≡ id → with_meaning names id m k ≡ m
set_here names id k m here = rw (eq-eqb k id here) refl

set_other : (names : Names) (id k : ℕ) (m : Meaning) → k ≢ id → with_meaning names id m k ≡ names k
set_other names id k m other = rw (ne_eqb k id other) refl

-- parameters that stand for nothing
abbrev pub AllUnknown : Names → List Spot → Type 0
AllUnknown names [] = Unit {0}
AllUnknown names (name ∷ more) = (names name.id ≡ Unknown) × AllUnknown names more

no_fault : (at : ℕ) (other : Option ℕ) → earlier (Some at) other ≡ None → ⊥
no_fault at None none = cc
no_fault at (Some m) none = cc

no_first : (unknown : Bool) (at : ℕ) (rest : Faults) → (both_faults (name_fault unknown at) rest).name ≡ None → (unknown ≡ true) × (rest.name ≡ None)
no_first true at rest none = (refl, none)
no_first false at rest none = absurd (no_fault at rest.name none)

unknown_before : (names : Names) (id k : ℕ) → with_meaning names id Reserved k ≡ Unknown → names k ≡ Unknown
unknown_before names id k is =
    elim (cases_eq k id) [
      | inl here ↦ let clash : Reserved ≡ Unknown = sym (set_here names id k Reserved here) ∙ is in cc
      | inr other ↦ sym (set_other names id k Reserved other) ∙ is
    ]

all_before : (list : List Spot) (names : Names) (id : ℕ) → AllUnknown (with_meaning names id Reserved) list → AllUnknown names list
all_before [] names id all = tt
all_before (name ∷ more) names id all = (unknown_before names id name.id all.0, all_before more names id all.1)

all_unknown : (list : List Spot) (names : Names) → (known_faults names list).name ≡ None → AllUnknown names list
all_unknown [] names none = tt
all_unknown (name ∷ more) names none =
    let rest : Faults = known_faults (with_meaning names name.id Reserved) more in
    let first = no_first (is_unknown (names name.id)) name.at rest (sym (ap (λ (f : Faults). f.name) (known_first names name more)) ∙ none) in
    (is_unknown_eq (names name.id) first.0, all_before more names name.id (all_unknown more (with_meaning names name.id Reserved) first.1))

-- a name is none of these
abbrev pub Outside : ℕ → List Spot → Type 0
Outside id [] = Unit {0}
Outside id (name ∷ more) = (id ≢ name.id) × Outside id more

outside_same : (list : List Spot) (k : ℕ) (names : Names) (id : ℕ) → Outside id list → with_parameters k names list id ≡ names id
outside_same [] k names id out = ap (λ (n : Names). n id) (goes_none k names)
outside_same (name ∷ more) k names id out =
    ap (λ (n : Names). n id) (goes_first k names name more) ∙ outside_same more (suc k) (with_meaning names name.id (given k)) id out.1 ∙ set_other names name.id id (given k) out.0

pub record ParametersLeft (limit : ℕ) (names : Names) (known : List Known) (left : List Spot) : Type 0 where
  now : Names
  are : AreKnown limit known now
  same : (id : ℕ) → Outside id left → now id ≡ names id
  unknown : AllUnknown names left

pub left_first : (limit : ℕ) (names : Names) (all : List Spot) (known : List Known) → (known_faults names all).name ≡ None → AreKnown limit known (with_parameters 0 names all) → ParametersLeft limit names known all
left_first limit names all known none are = record { now = with_parameters 0 names all; are = are; same = outside_same all 0 names; unknown = all_unknown all names none }

left_step : (limit : ℕ) (names : Names) (known next : List Known) (name : Spot) (more : List Spot) → ((now : Names) → AreKnown limit known now → AreKnown limit next (with_meaning now name.id Unknown))
    → ParametersLeft limit names known (name ∷ more) → ParametersLeft limit names next more
left_step limit names known next name more sets before =
    record {
      now = with_meaning before.now name.id Unknown;
      are = sets before.now before.are;
      same = λ id out.
          elim (cases_eq id name.id) [
            | inl here ↦ set_here before.now name.id id Unknown here ∙ sym (ap names here ∙ before.unknown.0)
            | inr other ↦ set_other before.now name.id id Unknown other ∙ before.same id (other, out)
          ];
      unknown = before.unknown.1;
    }

pub left_more : (limit : ℕ) (names : Names) (all : List Spot) (known next : List Known) (k : ℕ) (d : Spot) → k < length all
    → ((now : Names) → AreKnown limit known now → AreKnown limit next (with_meaning now (get_or all k d).id Unknown)) → ParametersLeft limit names known (drop k all) → ParametersLeft limit names next (drop (k + 1) all)
left_more limit names all known next k d within sets before =
    left_step limit names known next (get_or all k d) (drop (k + 1) all) sets (subst (λ l. ParametersLeft limit names known l) (next_spot all k d within) before)

pub left_none : (limit : ℕ) (names : Names) (all : List Spot) (list : List Known) (k : ℕ) → length all ≤ k → ParametersLeft limit names list (drop k all) → AreKnown limit list names
left_none limit names all list k past before id =
    let last : ParametersLeft limit names list [] = subst (λ l. ParametersLeft limit names list l) (drop_all k all past) before in
    subst (λ m. IsMeant limit (get_or list id known.Unknown) m) (last.same id tt) (last.are id)

-- definitions as they are read

pub no_tokens : (tokens : List Token) → length tokens ≡ 0 → tokens ≡ []
no_tokens [] none = refl
no_tokens (token ∷ rest) none = absurd (omega arith)
