-- Things that stand in a text one behind the other.
use Rattle.std.proofs.Common.{◌≡◌, ℕ, zero, suc, ◌+◌, ◌<◌, ◌≤◌, ◌⊎◌, inl, inr, false, Option, Some, None, option_map, option_and_then, List, [], ◌∷◌, ◌++◌, length, drop, flat_map, arith, refl, sym, ap, subst, ◌∙◌, append_assoc, append-nil, length-append, length-drop, drop-drop}
use Rattle.std.specs.List.{AllByRecursion}
use Rattle.std.proofs.lemmas.Option.{none-some, same_Some}
use Rattle.std.proofs.Math.Seq.{drop-append_seam}
use Rattle.fuun_base.specs.Decimals.{is_digit}
use Rattle.assembler.specs.Ahead.{Runs}

-- options

pub mapped : {A B : Type 0} (f : A → B) (o : Option A) (y : B) → option_map f o ≡ Some y → (x : A) × (o ≡ Some x) × (f x ≡ y)
mapped f None y e = absurd (none-some y e)
mapped f (Some x) y e = (x, refl, same_Some (f x) y e)

pub chained : {A B : Type 0} (f : A → Option B) (o : Option A) (y : B) → option_and_then f o ≡ Some y → (x : A) × (o ≡ Some x) × (f x ≡ Some y)
chained f None y e = absurd (none-some y e)
chained f (Some x) y e = (x, refl, e)

-- whether an option is there
pub cases_option : {A : Type 0} (o : Option A) → (o ≡ None) ⊎ ((x : A) × (o ≡ Some x))
cases_option None = inl refl
cases_option (Some x) = inr (x, refl)

-- fronts

-- so many bytes are this front
pub record Fronts (bytes front : List ℕ) (len : ℕ) : Type 0 where
  pub whole : bytes ≡ front ++ drop len bytes
  pub len_is : len ≡ length front

pub fronts : (bytes front rest : List ℕ) (len : ℕ) → bytes ≡ front ++ rest → len ≡ length front → Fronts bytes front len
fronts bytes front rest len whole long = record {
  whole = whole ∙ ap (λ l. front ++ l) (sym (ap (λ n. drop n bytes) long ∙ ap (λ l. drop (length front) l) whole ∙ drop-append_seam front rest));
  len_is = long;
}

-- with a byte before
pub fronts_behind : (byte : ℕ) (bytes front : List ℕ) (len : ℕ) → Fronts bytes front len → Fronts (byte ∷ bytes) (byte ∷ front) (len + 1)
fronts_behind byte bytes front len f = fronts (byte ∷ bytes) (byte ∷ front) (drop len bytes) (len + 1) (ap (λ l. byte ∷ l) f.whole) (let e = f.len_is in omega arith)

-- one behind the other
pub fronts_both : (bytes a b : List ℕ) (m n : ℕ) → Fronts bytes a m → Fronts (drop m bytes) b n → Fronts bytes (a ++ b) (m + n)
fronts_both bytes a b m n f g =
    let first = f.len_is in
    let second = g.len_is in
    fronts bytes (a ++ b) (drop n (drop m bytes)) (m + n)
    (f.whole ∙ ap (λ l. a ++ l) g.whole ∙ sym (append_assoc a b (drop n (drop m bytes))))
    (omega (arith, length-append a b))

pub front_length : (bytes front : List ℕ) (len : ℕ) → Fronts bytes front len → len ≤ length bytes
front_length bytes front len f = let e = f.len_is in let whole = ap length f.whole in omega (arith, length-append front (drop len bytes))

-- readers

-- no digit stands at the front
abbrev pub NoDigit : List ℕ → Type 0
NoDigit [] = Unit {0}
NoDigit (byte ∷ bytes) = is_digit byte ≡ false

-- what was found is small, and its text the front
abbrev pub IsFound : {X : Type 0} → (X → List ℕ) → (X → Type 0) → List ℕ → X × ℕ → Type 0
IsFound text Small bytes found = Small found.0 × Fronts bytes (text found.0) found.1

-- what stands ahead is found by its text, before anything that begins with no digit
pub record IsReader {X : Type 0} (text : X → List ℕ) (Small : X → Type 0) (ahead : List ℕ → Option (X × ℕ)) : Type 0 where
  pub finds : (x : X) (rest : List ℕ) → Small x → NoDigit rest → ahead (text x ++ rest) ≡ Some (x, length (text x))
  pub found : (bytes : List ℕ) (found : X × ℕ) → ahead bytes ≡ Some found → IsFound text Small bytes found
  pub some : (x : X) → 0 < length (text x)
  pub heads : (x : X) (rest : List ℕ) → NoDigit (text x ++ rest)
  pub none : ahead [] ≡ None

module _ {X : Type 0} (text : X → List ℕ) (Small : X → Type 0) (ahead : List ℕ → Option (X × ℕ)) (reads : IsReader text Small ahead) where
  -- what was found takes some bytes, and no more than there are
  pub found_len : (bytes : List ℕ) (found : X × ℕ) → ahead bytes ≡ Some found → (0 < found.1) × (found.1 ≤ length bytes)
  found_len bytes found is =
      let f = reads.found bytes found is in
      let e = f.1.len_is in
      (omega (arith, reads.some found.0), front_length bytes (text found.0) found.1 f.1)

  -- things are the text that they make
  pub runs_to : (bytes : List ℕ) (xs : List X) (rest : List ℕ) → Runs ahead bytes xs rest → AllByRecursion Small xs × (bytes ≡ flat_map text xs ++ rest)
  runs_to bytes [] rest runs = (tt, runs.1)
  runs_to bytes (x ∷ xs) rest runs =
      let f : IsFound text Small bytes (x, runs.0) = reads.found bytes (x, runs.0) runs.1 in
      let behind = runs_to (drop runs.0 bytes) xs rest runs.2 in (
        (f.0, behind.0),
        f.1.whole ∙ ap (λ l. text x ++ l) behind.1 ∙ sym (append_assoc (text x) (flat_map text xs) rest),
      )

  heads_behind : (xs : List X) (rest : List ℕ) → NoDigit rest → NoDigit (flat_map text xs ++ rest)
  heads_behind [] rest bars = bars
  heads_behind (x ∷ xs) rest bars = subst NoDigit (sym (append_assoc (text x) (flat_map text xs) rest)) (reads.heads x (flat_map text xs ++ rest))

  -- and in their text they are found
  pub runs_from : (xs : List X) (rest : List ℕ) → AllByRecursion Small xs → NoDigit rest → ahead rest ≡ None → Runs ahead (flat_map text xs ++ rest) xs rest
  runs_from [] rest small bars none = (none, refl)
  runs_from (x ∷ xs) rest small bars none =
      let behind : List ℕ = flat_map text xs ++ rest in
      let further : Runs ahead (drop (length (text x)) (text x ++ behind)) xs rest =
      subst (λ l. Runs ahead l xs rest) (sym (drop-append_seam (text x) behind)) (runs_from xs rest small.1 bars none) in
      subst (λ l. Runs ahead l (x ∷ xs) rest) (sym (append_assoc (text x) (flat_map text xs) rest))
      (length (text x), reads.finds x behind small.0 (heads_behind xs rest bars), further)

  -- some things stand there, perhaps none
  runs_within : (fuel : ℕ) (bytes : List ℕ) → length bytes ≤ fuel → (xs : List X) × (rest : List ℕ) × Runs ahead bytes xs rest
  runs_within zero bytes few =
      elim (cases_option (ahead bytes)) [
        | inl none ↦ ([], bytes, (none, refl))
        | inr found ↦ let l = found_len bytes found.0 found.1 in absurd (omega arith)
      ]
  runs_within (suc fuel) bytes few =
      elim (cases_option (ahead bytes)) [
        | inl none ↦ ([], bytes, (none, refl))
        | inr found ↦
            let l = found_len bytes found.0 found.1 in
            let behind = runs_within fuel (drop found.0.1 bytes) (omega (arith, length-drop found.0.1 bytes)) in
            (found.0.0 ∷ behind.0, behind.1, (found.0.1, found.1, behind.2))
      ]

  pub runs_of : (bytes : List ℕ) → (xs : List X) × (rest : List ℕ) × Runs ahead bytes xs rest
  runs_of bytes = runs_within (length bytes) bytes (omega arith)

-- and no others
pub runs_once : {X : Type 0} (ahead : List ℕ → Option (X × ℕ)) (bytes : List ℕ) (xs ys : List X) (r s : List ℕ) → Runs ahead bytes xs r → Runs ahead bytes ys s → (xs ≡ ys) × (r ≡ s)
runs_once ahead bytes [] [] r s a b = (refl, sym a.1 ∙ b.1)
runs_once {X} ahead bytes [] (y ∷ ys) r s a b = let found : X × ℕ = (y, b.0) in absurd (none-some found (sym a.0 ∙ b.1))
runs_once {X} ahead bytes (x ∷ xs) [] r s a b = let found : X × ℕ = (x, a.0) in absurd (none-some found (sym b.0 ∙ a.1))
runs_once {X} ahead bytes (x ∷ xs) (y ∷ ys) r s a b =
    let first : X × ℕ = (x, a.0) in
    let second : X × ℕ = (y, b.0) in
    let same : first ≡ second = same_Some first second (sym a.1 ∙ b.1) in
    let item : x ≡ y = ap (λ (p : X × ℕ). p.0) same in
    let len : a.0 ≡ b.0 = ap (λ (p : X × ℕ). p.1) same in
    let behind = runs_once ahead (drop b.0 bytes) xs ys r s (subst (λ n. Runs ahead (drop n bytes) xs r) len a.2) b.2 in
    (ap (λ z. z ∷ xs) item ∙ ap (λ l. y ∷ l) behind.0, behind.1)

-- things so far, behind which those of what is left go on
abbrev pub GoesOn : {X : Type 0} → (List ℕ → Option (X × ℕ)) → List ℕ → List X → ℕ → Type 0
GoesOn {X} ahead bytes xs place = (more : List X) (rest : List ℕ) → Runs ahead (drop place bytes) more rest → Runs ahead bytes (xs ++ more) rest

pub goes_on : {X : Type 0} (ahead : List ℕ → Option (X × ℕ)) (bytes : List ℕ) (xs : List X) (place : ℕ) (x : X) (len : ℕ) → ahead (drop place bytes) ≡ Some (x, len) → GoesOn ahead bytes xs place → GoesOn ahead bytes (xs ++ x ∷ []) (place + len)
goes_on {X} ahead bytes xs place x len found before more rest runs =
    subst (λ l. Runs ahead bytes l rest) (sym (append_assoc xs (x ∷ []) more))
    (before (x ∷ more) rest (len, found, subst (λ l. Runs ahead l more rest) (sym (drop-drop len place bytes)) runs))

pub goes_to_end : {X : Type 0} (ahead : List ℕ → Option (X × ℕ)) (bytes : List ℕ) (xs : List X) (place : ℕ) → ahead (drop place bytes) ≡ None → GoesOn ahead bytes xs place → Runs ahead bytes xs (drop place bytes)
goes_to_end ahead bytes xs place none before = subst (λ l. Runs ahead bytes l (drop place bytes)) (append-nil xs) (before [] (drop place bytes) (none, refl))
