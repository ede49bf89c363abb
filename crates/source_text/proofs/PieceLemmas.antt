-- Lists of pieces, as they are kept.
use Rattle.std.proofs.Common.{◌≡◌, ℕ, zero, suc, ◌+◌, ◌*◌, ◌^◌, ◌<◌, ◌≤◌, inl, inr, Bool, true, false, List, [], ◌∷◌, ◌++◌, length, get_or, set, take, drop, map, min, arith, refl, sym, ap, true≢false, ◌∙◌, append_assoc, append-nil, add-one}
use Rattle.std.specs.Prelude.{◌==◌, ◌||◌, ◌&&◌, if◌then◌else◌, nat_le}
use Rattle.std.specs.List.{list_all}
use Rattle.std.proofs.lemmas.Bool.{cases_lt, le-leb, leb-true, and_parts, cases_Bool, ne_eqb, lt-leb}
use Rattle.fuun_base.specs.declared.letters.Base.{Base}
use Rattle.source_text.specs.declared.held.Held.{Held}
use Rattle.source_text.specs.declared.pieces.Item.{Item}
use Rattle.source_text.specs.declared.pieces.Item.TheVariants.{Base as Literal, Group, Len, Given, Skip, Search, Start, Stop}
use Rattle.source_text.specs.declared.pieces.Piece.{Piece}
use Rattle.source_text.specs.Keeping.{AreHeld, IsHeld, kept}
use Rattle.source_text.specs.Measured.{IsMeasured}
use Rattle.source_text.specs.Pieces.{are_bases, bases_of, given_at, is_base_item, item_size, size, is_base, piece_at, placed, times}

pub times_none : (n : ℕ) → times n [] ≡ []
unfolding times
times_none zero = refl
times_none (suc n) = times_none n

times_end : (n : ℕ) (x : List Piece) → times n x ++ x ≡ x ++ times n x
unfolding times
times_end zero x = sym (append-nil x)
times_end (suc n) x = append_assoc x (times n x) x ∙ ap (λ l. x ++ l) (times_end n x)

pub times_more : (n : ℕ) (x now : List Piece) → now ≡ times n x ++ x → now ≡ times (n + 1) x
unfolding times
times_more n x now is = is ∙ times_end n x ∙ rw add-one refl

pub size_both : (x y : List Piece) → size (x ++ y) ≡ size x + size y
size_both [] y = omega arith
size_both (p ∷ x) y = omega (arith, size_both x y)

times_len : (n : ℕ) (x : List Piece) → size (times n x) ≡ n * size x
unfolding times
times_len zero x = omega arith
times_len (suc n) x = size_both x (times n x) ∙ omega (arith, times_len n x)

pub all_of : (x y : List Piece) → list_all is_base (x ++ y) ≡ (list_all is_base x && list_all is_base y)
all_of [] y = refl
all_of (p ∷ x) y =
    elim (cases_Bool (is_base p)) [
      | inl is ↦ rw is (all_of x y)
      | inr other ↦ rw other refl
    ]

same_twice : (b : Bool) → (b && b) ≡ b
same_twice true = refl
same_twice false = refl

not_zero : (n : ℕ) (b : Bool) → (suc n == 0 || b) ≡ b
not_zero n b = let e : suc n == 0 ≡ false = ne_eqb (suc n) 0 (λ h. omega (arith, h)) in rw e refl

times_bases : (n : ℕ) (x : List Piece) → are_bases (times n x) ≡ (n == 0 || are_bases x)
unfolding times
times_bases zero x = refl
times_bases (suc zero) x = ap are_bases (append-nil x) ∙ sym (not_zero 0 (are_bases x))
times_bases (suc (suc n)) x =
    let before : are_bases (times (suc n) x) ≡ are_bases x = times_bases (suc n) x ∙ not_zero n (are_bases x) in
    all_of x (times (suc n) x) ∙ ap (λ b. are_bases x && b) before ∙ same_twice (are_bases x) ∙ sym (not_zero (suc n) (are_bases x))

listed_times : (limit n : ℕ) (x items : List Piece) (within : Bool) → items ≡ kept limit x → nat_le (size (times n x)) limit ≡ within
    → (if within then times n items else []) ≡ (if within then times n x else [])
unfolding times
listed_times limit n x items false is e = refl
listed_times limit zero x items true is e = refl
listed_times limit (suc n) x items true is e =
    let small : size (times (suc n) x) ≤ limit = leb-true (size (times (suc n) x)) limit e in
    let less : size x ≤ limit = omega (arith, times_len (suc n) x) in
    let whole : kept limit x ≡ x = rw (le-leb (size x) limit less) refl in
    ap (times (suc n)) (is ∙ whole)

pub product_held : (a b n : ℕ) → a ≡ min b (2 ^ 63) → min (a * n) (2 ^ 63) ≡ min (n * b) (2 ^ 63)
product_held a b zero is = omega arith
product_held a b (suc n) is =
    elim (cases_lt b (2 ^ 63)) [
      | inl small ↦
          let same : a ≡ b = omega arith in
          ap (λ k. min (k * suc n) (2 ^ 63)) same ∙ (let e : b * suc n ≡ suc n * b = omega arith in ap (λ k. min k (2 ^ 63)) e)
      | inr big ↦
          let same : a ≡ 2 ^ 63 = omega arith in
          ap (λ k. min (k * suc n) (2 ^ 63)) same ∙ omega arith
    ]

within_held : (n limit : ℕ) → limit ≤ 2 ^ 40 → nat_le (min n (2 ^ 63)) limit ≡ nat_le n limit
within_held n limit low =
    elim (cases_lt limit n) [
      | inl past ↦
          let a : limit < min n (2 ^ 63) = omega arith in
          lt-leb (min n (2 ^ 63)) limit a ∙ sym (lt-leb n limit past)
      | inr fits ↦
          let a : min n (2 ^ 63) ≤ limit = omega arith in
          le-leb (min n (2 ^ 63)) limit a ∙ sym (le-leb n limit fits)
    ]

pub held_times : (limit n count : ℕ) (part held : Held) (x : List Piece) → limit ≤ 2 ^ 40 → IsHeld limit part x → count ≡ min (part.count * n) (2 ^ 63)
    → held.items.items ≡ (if nat_le count limit then times n part.items.items else []) → held.count ≡ count → held.bases ≡ (n == 0 || part.bases)
    → IsMeasured held.measure (times n x) → IsHeld limit held (times n x)
held_times limit n count part held x low is counted items same bases measured =
    let all : count ≡ min (size (times n x)) (2 ^ 63) = counted ∙ product_held part.count (size x) n is.counted ∙ ap (λ k. min k (2 ^ 63)) (sym (times_len n x)) in
    let fits : nat_le count limit ≡ nat_le (size (times n x)) limit = ap (λ k. nat_le k limit) all ∙ within_held (size (times n x)) limit low in
    record {
      listed = items ∙ ap (λ b. if b then times n part.items.items else []) fits ∙ listed_times limit n x part.items.items (nat_le (size (times n x)) limit) is.listed refl;
      counted = same ∙ all;
      judged = bases ∙ ap (λ b. n == 0 || b) is.judged ∙ sym (times_bases n x);
      measured = measured;
    }

one_base : (b : Bool) → (b && true) ≡ b
one_base true = refl
one_base false = refl

base_size : (item : Item) → is_base_item item ≡ true → item_size item ≡ 1
base_size (Literal b) is = refl
base_size (Group n level) is = refl
base_size (Len n) is = refl
base_size (Given k) is = refl
base_size (Skip sum) is = refl
base_size (Search s) is = absurd (true≢false (sym is))
base_size Start is = refl
base_size Stop is = refl

listed_both : (limit : ℕ) (x y a b : List Piece) (within : Bool) → a ≡ kept limit x → b ≡ kept limit y → nat_le (size (x ++ y)) limit ≡ within
    → (if within then a ++ b else []) ≡ (if within then x ++ y else [])
listed_both limit x y a b false first second e = refl
listed_both limit x y a b true first second e =
    let small : size (x ++ y) ≤ limit = leb-true (size (x ++ y)) limit e in
    let sum = size_both x y in
    let one : size x ≤ limit = omega arith in
    let two : size y ≤ limit = omega arith in
    let whole_x : kept limit x ≡ x = rw (le-leb (size x) limit one) refl in
    let whole_y : kept limit y ≡ y = rw (le-leb (size y) limit two) refl in
    ap (λ l. l ++ b) (first ∙ whole_x) ∙ ap (λ l. x ++ l) (second ∙ whole_y)

pub held_both : (limit count : ℕ) (one two held : Held) (x y : List Piece) → limit ≤ 2 ^ 40 → IsHeld limit one x → IsHeld limit two y → count ≡ min (one.count + two.count) (2 ^ 63)
    → held.items.items ≡ (if nat_le count limit then one.items.items ++ two.items.items else []) → held.count ≡ count → held.bases ≡ (one.bases && two.bases)
    → IsMeasured held.measure (x ++ y) → IsHeld limit held (x ++ y)
held_both limit count one two held x y low first second counted items same bases measured =
    let sum = size_both x y in
    let all : count ≡ min (size (x ++ y)) (2 ^ 63) = omega (arith, counted, first.counted, second.counted) in
    let fits : nat_le count limit ≡ nat_le (size (x ++ y)) limit = ap (λ k. nat_le k limit) all ∙ within_held (size (x ++ y)) limit low in
    record {
      listed = items ∙ ap (λ b. if b then one.items.items ++ two.items.items else []) fits ∙ listed_both limit x y one.items.items two.items.items (nat_le (size (x ++ y)) limit) first.listed second.listed refl;
      counted = same ∙ all;
      judged = bases ∙ ap (λ b. b && two.bases) first.judged ∙ ap (λ b. are_bases x && b) second.judged ∙ sym (all_of x y);
      measured = measured;
    }

-- a list of one piece, by how much it counts
pub held_one : (limit count : ℕ) (held : Held) (piece : Piece) → limit ≤ 2 ^ 40 → count ≡ min (item_size piece.item) (2 ^ 63)
    → held.items.items ≡ (if nat_le count limit then piece ∷ [] else []) → held.count ≡ count → held.bases ≡ is_base piece → IsMeasured held.measure (piece ∷ [])
    → IsHeld limit held (piece ∷ [])
held_one limit count held piece low counted items same bases measured =
    let all : count ≡ min (size (piece ∷ [])) (2 ^ 63) = counted ∙ (let e : item_size piece.item ≡ item_size piece.item + 0 = omega arith in ap (λ n. min n (2 ^ 63)) e) in
    let fits : nat_le count limit ≡ nat_le (size (piece ∷ [])) limit = ap (λ k. nat_le k limit) all ∙ within_held (size (piece ∷ [])) limit low in
    record {
      listed = items ∙ ap (λ b. if b then piece ∷ [] else []) fits;
      counted = same ∙ all;
      judged = bases ∙ sym (one_base (is_base piece));
      measured = measured;
    }

-- bases count one each
pub size_bases : (x : List Piece) → are_bases x ≡ true → size x ≡ length x
size_bases [] are = refl
size_bases (p ∷ x) are =
    let both = and_parts (is_base p) (are_bases x) are in
    omega (arith, base_size p.item both.0, size_bases x both.1)

-- pieces at another place

pub placed_len : (at : ℕ) (x : List Piece) → length (map (placed at) x) ≡ length x
placed_len at [] = refl
placed_len at (p ∷ x) = ap (λ n. suc n) (placed_len at x)

placed_size : (at : ℕ) (x : List Piece) → size (map (placed at) x) ≡ size x
placed_size at [] = refl
placed_size at (p ∷ x) = ap (λ n. item_size p.item + n) (placed_size at x)

placed_bases : (at : ℕ) (x : List Piece) → are_bases (map (placed at) x) ≡ are_bases x
placed_bases at [] = refl
placed_bases at (p ∷ x) = ap (λ b. is_base p && b) (placed_bases at x)

map_kept : (at : ℕ) (x : List Piece) (b : Bool) → map (placed at) (if b then x else []) ≡ (if b then map (placed at) x else [])
map_kept at x true = refl
map_kept at x false = refl

pub held_placed : (limit at : ℕ) (old new : Held) (x : List Piece) → new.items.items ≡ map (placed at) old.items.items → new.count ≡ old.count → new.bases ≡ old.bases
    → (IsMeasured old.measure x → IsMeasured new.measure (map (placed at) x)) → IsHeld limit old x → IsHeld limit new (map (placed at) x)
held_placed limit at old new x items count bases measured is = record {
  listed = items ∙ ap (map (placed at)) is.listed ∙ map_kept at x (nat_le (size x) limit) ∙ ap (λ n. if nat_le n limit then map (placed at) x else []) (sym (placed_size at x));
  counted = count ∙ is.counted ∙ ap (λ n. min n (2 ^ 63)) (sym (placed_size at x));
  judged = bases ∙ is.judged ∙ sym (placed_bases at x);
  measured = measured is.measured;
}

-- templates that are given

pub given_past : (limit k : ℕ) (given : List Held) (lists : List (List Piece)) → length given ≤ k → AreHeld limit given lists → given_at lists k ≡ []
given_past limit k [] [] past are = refl
given_past limit k [] (x ∷ lists) past are = absurd are
given_past limit k (held ∷ given) [] past are = absurd are
given_past limit zero (held ∷ given) (x ∷ lists) past are = absurd (omega arith)
given_past limit (suc k) (held ∷ given) (x ∷ lists) past are = given_past limit k given lists (omega arith) are.1

pub given_held : (limit k : ℕ) (given : List Held) (lists : List (List Piece)) (d : Held) → k < length given → AreHeld limit given lists → IsHeld limit (get_or given k d) (given_at lists k)
given_held limit k [] lists d within are = absurd (omega arith)
given_held limit k (held ∷ given) [] d within are = absurd are
given_held limit zero (held ∷ given) (x ∷ lists) d within are = are.0
given_held limit (suc k) (held ∷ given) (x ∷ lists) d within are = given_held limit k given lists d (omega arith) are.1

set_at : (at i : ℕ) (old : List Piece) (d : Piece) → i < length old
    → set (map (placed at) (take i old) ++ drop i old) i (piece_at at (get_or (map (placed at) (take i old) ++ drop i old) i d).item) ≡ map (placed at) (take (i + 1) old) ++ drop (i + 1) old
set_at at i [] d within = absurd (omega arith)
set_at at zero (p ∷ old) d within = refl
set_at at (suc i) (p ∷ old) d within =
    let next : suc i + 1 ≡ suc (i + 1) = omega arith in
    ap (λ l. placed at p ∷ l) (set_at at i old d (omega arith)) ∙ sym (ap (λ n. map (placed at) (take n (p ∷ old)) ++ drop n (p ∷ old)) next)

pub placed_more : (at i : ℕ) (now old : List Piece) (d : Piece) → i < length old → now ≡ map (placed at) (take i old) ++ drop i old
    → set now i (piece_at at (get_or now i d).item) ≡ map (placed at) (take (i + 1) old) ++ drop (i + 1) old
placed_more at i now old d within is = ap (λ l. set l i (piece_at at (get_or l i d).item)) is ∙ set_at at i old d within

pub nil_of : (x : List Piece) → length x ≡ 0 → x ≡ []
nil_of [] none = refl
nil_of (p ∷ x) none = absurd (omega arith)

bases_len : (x : List Piece) → length (bases_of x) ≡ length x
bases_len [] = refl
bases_len (p ∷ x) = ap (λ n. suc n) (bases_len x)

searched : (limit at : ℕ) (x : List Piece) (bases : List Base) (within : Bool) → nat_le (size (piece_at at (Search (bases_of x)) ∷ [])) limit ≡ within
    → size (piece_at at (Search (bases_of x)) ∷ []) ≡ size x + 1 → bases ≡ bases_of (kept limit x)
    → (if within then piece_at at (Search bases) ∷ [] else []) ≡ (if within then piece_at at (Search (bases_of x)) ∷ [] else [])
searched limit at x bases false e whole read = refl
searched limit at x bases true e whole read =
    let small : size x ≤ limit = omega (arith, leb-true (size (piece_at at (Search (bases_of x)) ∷ [])) limit e, whole) in
    let here : kept limit x ≡ x = rw (le-leb (size x) limit small) refl in
    ap (λ b. piece_at at (Search b) ∷ []) (read ∙ ap bases_of here)

-- the search for bases that are kept
pub held_search : (limit at count : ℕ) (found held : Held) (x : List Piece) (bases : List Base) → limit ≤ 2 ^ 40 → found.bases ≡ true → IsHeld limit found x → count ≡ min (found.count + 1) (2 ^ 63)
    → bases ≡ bases_of found.items.items → held.items.items ≡ (if nat_le count limit then piece_at at (Search bases) ∷ [] else []) → held.count ≡ count → held.bases ≡ false
    → IsMeasured held.measure (piece_at at (Search (bases_of x)) ∷ []) → IsHeld limit held (piece_at at (Search (bases_of x)) ∷ [])
held_search limit at count found held x bases low are is counted read items same other measured =
    let short : size x ≡ length x = size_bases x (sym is.judged ∙ are) in
    let len : length (bases_of x) ≡ length x = bases_len x in
    let whole : size (piece_at at (Search (bases_of x)) ∷ []) ≡ size x + 1 = omega (arith, short, len) in
    let all : count ≡ min (size (piece_at at (Search (bases_of x)) ∷ [])) (2 ^ 63) = omega (arith, counted, is.counted, whole) in
    let fits : nat_le count limit ≡ nat_le (size (piece_at at (Search (bases_of x)) ∷ [])) limit = ap (λ k. nat_le k limit) all ∙ within_held (size (piece_at at (Search (bases_of x)) ∷ [])) limit low in
    record {
      listed =
          items
          ∙ ap (λ b. if b then piece_at at (Search bases) ∷ [] else []) fits
          ∙ searched limit at x bases (nat_le (size (piece_at at (Search (bases_of x)) ∷ [])) limit) refl whole (read ∙ ap bases_of is.listed);
      counted = same ∙ all;
      judged = other;
      measured = measured;
    }
