-- Takers that keep a list of commands, or only their number.
use Rattle.std.specs.Prelude.{◌≡◌, ℕ, ◌+◌, ◌≤◌, List, [], ◌++◌, length, refl}
use Rattle.std.proofs.Common.{arith, ap, sym, ◌∙◌, length-append, append-nil}
use Rattle.std.proofs.lemmas.List.{append_assoc}
use Rattle.fuun_base.specs.declared.letters.Base.{Base}

-- exactly these commands were appended
abbrev pub Appended : List (List Base) → List (List Base) → List (List Base) → Type 0
Appended old commands new = new ≡ old ++ commands

-- a front of these commands was appended
pub record AppendedFront (old commands new : List (List Base)) : Type 0 where
  pub front : List (List Base)
  pub rest : List (List Base)
  pub is : commands ≡ front ++ rest
  pub appended : new ≡ old ++ front

-- so many commands were counted
abbrev pub Counted : ℕ → List (List Base) → ℕ → Type 0
Counted old commands new = new ≡ old + length commands

-- a front of these commands was counted
pub record CountedFront (old : ℕ) (commands : List (List Base)) (new : ℕ) : Type 0 where
  pub front : List (List Base)
  pub rest : List (List Base)
  pub is : commands ≡ front ++ rest
  pub counted : new ≡ old + length front

pub appended_stays : (a : List (List Base)) → Appended a [] a
appended_stays a = sym (append-nil a)

pub appended_goes_on : (a b c x y : List (List Base)) → Appended a x b → Appended b y c → Appended a (x ++ y) c
appended_goes_on a b c x y p q = q ∙ ap (λ l. l ++ y) p ∙ append_assoc a x y

pub appended_counts : (a b x : List (List Base)) → Appended a x b → length b ≡ length a + length x
appended_counts a b x p = ap length p ∙ length-append a x

pub appended_starts : (a b x y : List (List Base)) → Appended a x b → AppendedFront a (x ++ y) b
appended_starts a b x y p = record { front = x; rest = y; is = refl; appended = p }

pub appended_goes_within : (a b c x y : List (List Base)) → Appended a x b → AppendedFront b y c → AppendedFront a (x ++ y) c
appended_goes_within a b c x y p w = record {
  front = x ++ w.front;
  rest = w.rest;
  is = ap (λ l. x ++ l) w.is ∙ sym (append_assoc x w.front w.rest);
  appended = w.appended ∙ ap (λ l. l ++ w.front) p ∙ append_assoc a x w.front;
}

pub appended_widens : (a b x y : List (List Base)) → AppendedFront a x b → AppendedFront a (x ++ y) b
appended_widens a b x y w = record {
  front = w.front;
  rest = w.rest ++ y;
  is = ap (λ l. l ++ y) w.is ∙ append_assoc w.front w.rest y;
  appended = w.appended;
}

pub appended_counts_within : (a b x : List (List Base)) → AppendedFront a x b → (length a ≤ length b) × (length b ≤ length a + length x)
appended_counts_within a b x w =
    let total = ap length w.is in
    let count = ap length w.appended in (
      omega (arith, length-append a w.front),
      omega (arith, length-append a w.front, length-append w.front w.rest),
    )

pub counted_stays : (a : ℕ) → Counted a [] a
counted_stays a = omega arith

pub counted_goes_on : (a b c : ℕ) (x y : List (List Base)) → Counted a x b → Counted b y c → Counted a (x ++ y) c
counted_goes_on a b c x y p q = omega (arith, length-append x y)

pub counted_starts : (a b : ℕ) (x y : List (List Base)) → Counted a x b → CountedFront a (x ++ y) b
counted_starts a b x y p = record { front = x; rest = y; is = refl; counted = p }

pub counted_goes_within : (a b c : ℕ) (x y : List (List Base)) → Counted a x b → CountedFront b y c → CountedFront a (x ++ y) c
counted_goes_within a b c x y p w = record {
  front = x ++ w.front;
  rest = w.rest;
  is = ap (λ l. x ++ l) w.is ∙ sym (append_assoc x w.front w.rest);
  counted = let n = w.counted in omega (arith, length-append x w.front);
}

pub counted_widens : (a b : ℕ) (x y : List (List Base)) → CountedFront a x b → CountedFront a (x ++ y) b
counted_widens a b x y w = record {
  front = w.front;
  rest = w.rest ++ y;
  is = ap (λ l. l ++ y) w.is ∙ append_assoc w.front w.rest y;
  counted = w.counted;
}

pub counted_counts_within : (a b : ℕ) (x : List (List Base)) → CountedFront a x b → (a ≤ b) × (b ≤ a + length x)
counted_counts_within a b x w =
    let total = ap length w.is in
    let n = w.counted in
    (omega arith, omega (arith, length-append w.front w.rest))
