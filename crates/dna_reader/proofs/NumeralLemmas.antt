-- Numerals, digit by digit and window by window.
use Rattle.std.proofs.Common.{◌≡◌, ℕ, suc, ◌+◌, ◌*◌, ◌<◌, ◌≤◌, ◌⊎◌, inl, inr, false, cond, Option, Some, None, List, [], ◌∷◌, ◌++◌, length, take, arith, refl, ap, sym, ◌∙◌, add-one}
use Rattle.std.specs.Prelude.{position, nat_lt}
use Rattle.std.specs.List.{position_or_len}
use Rattle.std.specs.Option.{option_map}
use Rattle.std.proofs.lemmas.Bool.{cases_lt, lt-ltb, le-ltb}
use Rattle.std.proofs.lemmas.Nat.{pow-add}
use Rattle.std.proofs.lemmas.List.Quantifiers.{position-Some}
use Rattle.std.proofs.Math.Seq.{take-append-add}
use Rattle.fuun_base.specs.declared.letters.Base.{Base}
use Rattle.fuun_base.specs.declared.letters.Base.TheVariants.{I, C, F, P}
use Rattle.dna_reader.specs.Numeral.{is_p, weight_at, value_from, numeral}
use Rattle.dna_reader.specs.ReadingLaws.{NumeralByDigits}

-- the place of a test's first success, one further on
next_place : (m n : ℕ) → cond (nat_lt (1 + m) (suc n)) (Some (1 + m)) None ≡ option_map (λ k. k + 1) (cond (nat_lt m n) (Some m) None)
next_place m n =
    elim (cases_lt m n) [
      | inl h ↦ rw (lt-ltb m n h) (rw (lt-ltb (1 + m) (suc n) (omega arith)) (ap (λ k. Some k) (omega arith)))
      | inr h ↦ rw (le-ltb m n h) (rw (le-ltb (1 + m) (suc n) (omega arith)) refl)
    ]

-- a digit in front moves the P one place on
pub position_behind : (b : Base) (d : List Base) → is_p b ≡ false → position is_p (b ∷ d) ≡ option_map (λ k. k + 1) (position is_p d)
position_behind b d e = rw e (next_place (position_or_len is_p d) (length d))

pub position_here : (d : List Base) → position is_p (P ∷ d) ≡ Some 0
position_here d = rw (lt-ltb 0 (suc (length d)) (omega arith)) refl

weight_next : (place : ℕ) (b : Base) → weight_at (place + 1) b ≡ 2 * weight_at place b
weight_next place I = refl
weight_next place C = grind (arith, pow-add 2 place 1)
weight_next place F = refl
weight_next place P = refl

pub value_next : (place : ℕ) (d : List Base) → value_from (place + 1) d ≡ 2 * value_from place d
value_next place [] = refl
value_next place (b ∷ d) = omega (arith, weight_next place b, value_next (place + 1) d)

pub value_from-append : (place : ℕ) (a b : List Base) → value_from place (a ++ b) ≡ value_from place a + value_from (place + length a) b
value_from-append place [] b =
    let same : place + 0 ≡ place = omega arith in
    let e : value_from (place + 0) b ≡ value_from place b = ap (λ n. value_from n b) same in
    omega arith
value_from-append place (x ∷ a) b =
    let same : (place + 1) + length a ≡ place + suc (length a) = omega arith in
    let e : value_from ((place + 1) + length a) b ≡ value_from (place + suc (length a)) b = ap (λ n. value_from n b) same in
    omega (arith, value_from-append (place + 1) a b, e)

-- no P is among these bases
abbrev pub HasNoP : List Base → Type 0
HasNoP d = position is_p d ≡ None

pub map_none : {A B : Type 0} (f : A → B) (o : Option A) → option_map f o ≡ None → o ≡ None
map_none f None e = refl
map_none f (Some x) e = cc

pub map_some : {A B : Type 0} (f : A → B) (o : Option A) (y : B) → option_map f o ≡ Some y → (x : A) × (o ≡ Some x) × (f x ≡ y)
map_some f None y e = cc
map_some f (Some x) y e = (x, refl, cc)

p_cases : (b : Base) → (is_p b ≡ false) ⊎ (b ≡ P)
p_cases I = inl refl
p_cases C = inl refl
p_cases F = inl refl
p_cases P = inr refl

further : (n : ℕ) (o : Option ℕ) → option_map (λ k. k + 1) (option_map (λ k. n + k) o) ≡ option_map (λ k. suc n + k) o
further n None = refl
further n (Some k) = let e : (n + k) + 1 ≡ suc n + k = omega arith in ap (λ m. Some m) e

as_it_is : (o : Option ℕ) → o ≡ option_map (λ k. 0 + k) o
as_it_is None = refl
as_it_is (Some k) = let e : k ≡ 0 + k = omega arith in ap (λ m. Some m) e

-- behind digits without a P the place of the P is counted from their end
pub position_after : (a b : List Base) → HasNoP a → position is_p (a ++ b) ≡ option_map (λ k. length a + k) (position is_p b)
position_after [] b no_p = as_it_is (position is_p b)
position_after (x ∷ a) b no_p =
    elim (p_cases x) [
      | inl e ↦
          let rest : HasNoP a = map_none (λ k. k + 1) (position is_p a) (sym (position_behind x a e) ∙ no_p) in
          position_behind x (a ++ b) e ∙ ap (λ o. option_map (λ k. k + 1) o) (position_after a b rest) ∙ further (length a) (position is_p b)
      | inr e ↦
          let here : position is_p (x ∷ a) ≡ Some 0 = rw e (position_here a) in
          cc
    ]

pub HasNoP-append : (a b : List Base) → HasNoP a → HasNoP b → HasNoP (a ++ b)
HasNoP-append a b x y = position_after a b x ∙ ap (λ o. option_map (λ k. length a + k) o) y

pub position_within : (d : List Base) (k : ℕ) → position is_p d ≡ Some k → k < length d
position_within d k e = (position-Some is_p d k P e).0

-- a place found in a front is the place in the whole
pub position_in_front : (a b : List Base) (k : ℕ) → position is_p a ≡ Some k → position is_p (a ++ b) ≡ Some k
position_in_front [] b k e = cc
position_in_front (x ∷ a) b k e =
    elim (p_cases x) [
      | inl other ↦
          let found = map_some (λ j. j + 1) (position is_p a) k (sym (position_behind x a other) ∙ e) in
          position_behind x (a ++ b) other ∙ ap (λ o. option_map (λ j. j + 1) o) (position_in_front a b found.0 found.1) ∙ ap (λ j. Some j) found.2
      | inr is ↦
          let here : position is_p (x ∷ a) ≡ Some 0 = rw is (position_here a) in
          let there : position is_p (x ∷ (a ++ b)) ≡ Some 0 = rw is (position_here (a ++ b)) in
          there ∙ sym here ∙ e
    ]

pub numeral_at : (a d : List Base) (k : ℕ) → HasNoP a → position is_p d ≡ Some k → numeral (a ++ d) ≡ Some (value_from 0 (a ++ take k d), length a + k + 1)
numeral_at a d k no_p e =
    let at : position is_p (a ++ d) ≡ Some (length a + k) = position_after a d no_p ∙ ap (λ o. option_map (λ j. length a + j) o) e in
    rw at (rw (take-append-add a d k) refl)

-- a numeral takes its P too, and nothing that is not there
pub numeral_within : (d : List Base) (n : ℕ × ℕ) → numeral d ≡ Some n → (0 < n.1) × (n.1 ≤ length d)
numeral_within d n e =
    let found = map_some (λ end. (value_from 0 (take end d), end + 1)) (position is_p d) n e in
    let within : found.0 < length d = position_within d found.0 found.1 in
    let takes : found.0 + 1 ≡ n.1 = ap (λ m. m.1) found.2 in
    (omega arith, omega arith)

-- what a number and the bases it takes come to behind a digit
abbrev pub with_digit : ℕ → ℕ × ℕ → ℕ × ℕ
with_digit digit n = (digit + 2 * n.0, n.1 + 1)

abbrev pub number_at : List Base → ℕ → ℕ × ℕ
number_at d end = (value_from 0 (take end d), end + 1)

number_behind : (b : Base) (d : List Base) (o : Option ℕ) → option_map (number_at (b ∷ d)) (option_map (λ k. k + 1) o) ≡ option_map (with_digit (weight_at 0 b)) (option_map (number_at d) o)
number_behind b d None = refl
number_behind b d (Some k) =
    let front : take (k + 1) (b ∷ d) ≡ b ∷ take k d = rw (add-one) refl in
    let value : value_from 0 (take (k + 1) (b ∷ d)) ≡ weight_at 0 b + 2 * value_from 0 (take k d) =
    ap (λ l. value_from 0 l) front ∙ ap (λ v. weight_at 0 b + v) (value_next 0 (take k d)) in
    let both : (v : ℕ) → Option (ℕ × ℕ) = λ v. Some (v, k + 1 + 1) in
    ap both value

-- a digit in front of a numeral
numeral_behind : (b : Base) (d : List Base) → is_p b ≡ false → numeral (b ∷ d) ≡ option_map (with_digit (weight_at 0 b)) (numeral d)
numeral_behind b d e = ap (λ o. option_map (number_at (b ∷ d)) o) (position_behind b d e) ∙ number_behind b d (position is_p d)

map_same : {A B : Type 0} (f g : A → B) (o : Option A) → ((x : A) → f x ≡ g x) → option_map f o ≡ option_map g o
map_same f g None same = refl
map_same f g (Some x) same = ap (λ y. Some y) (same x)

doubled : (n : ℕ × ℕ) → with_digit 0 n ≡ (2 * n.0, n.1 + 1)
doubled n = let none : 0 + 2 * n.0 ≡ 2 * n.0 = omega arith in ap (λ (v : ℕ). let pair : ℕ × ℕ = (v, n.1 + 1) in pair) none

pub numeral_by_digits : NumeralByDigits
numeral_by_digits d = (
  numeral_behind C d refl,
  numeral_behind I d refl ∙ map_same (with_digit 0) (λ n. (2 * n.0, n.1 + 1)) (numeral d) doubled,
  numeral_behind F d refl ∙ map_same (with_digit 0) (λ n. (2 * n.0, n.1 + 1)) (numeral d) doubled,
  rw (position_here d) refl,
  refl,
)
