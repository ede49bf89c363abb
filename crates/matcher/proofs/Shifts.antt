-- Places on what a DNA holds from a place on, and places on the whole of it.
use Rattle.std.proofs.Common.{◌≡◌, ℕ, ◌+◌, ◌-◌, ◌≤◌, List, [], ◌∷◌, zero, suc, length, take, drop, map, get_or, arith, refl, ap, sym, ◌∙◌, subst, zero-add, length-drop}
use Rattle.std.specs.Prelude.{slice_get, slice_range}
use Rattle.std.proofs.lemmas.List.{drop-drop}
use Rattle.fuun_base.specs.declared.letters.Base.{Base}
use Rattle.fuun_base.specs.Occurrence.{IsFirst, Stands}
use Rattle.dna_items.specs.declared.items.PatItem.{PatItem}
use Rattle.dna_items.specs.declared.items.PatItem.TheVariants.{Base as Literal, Skip, Search, GroupStart, GroupStop}
use Rattle.matcher.specs.Match.{Meets, LeadThrough, last_place}
use Rattle.matcher.proofs.Places.{meets_rise}

pub slice_get-drop : {X : Type 0} (xs : List X) (n i : ℕ) → slice_get (drop n xs) i ≡ slice_get xs (n + i)
slice_get-drop xs zero i = ap (slice_get xs) (sym (zero-add i))
slice_get-drop [] (suc n) i = refl
slice_get-drop (x ∷ xs) (suc n) i =
    let e : suc n + i ≡ suc (n + i) = omega arith in
    rw e (slice_get-drop xs n i)

stands_there : (s d : List Base) (p i : ℕ) → slice_range (drop p d) i (i + length s) ≡ slice_range d (p + i) (p + i + length s)
stands_there s d p i =
    let a : i + length s - i ≡ length s = omega arith in
    let b : p + i + length s - (p + i) ≡ length s = omega arith in
    rw a (rw b (ap (take (length s)) (drop-drop i p d)))

pub stands_shift : (s d : List Base) (p i : ℕ) → Stands s d (p + i) → Stands s (drop p d) i
stands_shift s d p i h = record {
  within = rw (length-drop p d) (omega (arith, h.within));
  there = stands_there s d p i ∙ h.there;
}

pub stands_back : (s d : List Base) (p i : ℕ) → p ≤ length d → Stands s (drop p d) i → Stands s d (p + i)
stands_back s d p i within h =
    let inside : i + length s ≤ length d - p = rw (length-drop p d) at h.within in
    record { within = omega arith; there = sym (stands_there s d p i) ∙ h.there }

pub first_shift : (s d : List Base) (p i f : ℕ) → p ≤ length d → IsFirst s d (p + i) (p + f) → IsFirst s (drop p d) i f
first_shift s d p i f within h = record {
  after = omega (arith, h.after);
  stands = stands_shift s d p f h.stands;
  least = λ e a b there. h.least (p + e) (omega arith) (omega arith) (stands_back s d p e within there);
}

pub first_back : (s d : List Base) (p i f : ℕ) → p ≤ length d → IsFirst s (drop p d) i f → IsFirst s d (p + i) (p + f)
first_back s d p i f within h = record {
  after = omega (arith, h.after);
  stands = stands_back s d p f within h.stands;
  least = λ e a b there.
      let is : e ≡ p + (e - p) = omega arith in
      h.least (e - p) (omega arith) (omega arith) (stands_shift s d p (e - p) (subst (Stands s d) is there));
}

pub meets_shift : (d : List Base) (item : PatItem) (p i j : ℕ) → p ≤ i → i ≤ length d → Meets d item i j → Meets (drop p d) item (i - p) (j - p)
meets_shift d (Literal b) p i j after within h =
    let e : p + (i - p) ≡ i = omega arith in
    (slice_get-drop d p (i - p) ∙ ap (slice_get d) e ∙ h.0, omega (arith, h.1))
meets_shift d (Skip n) p i j after within h = (omega (arith, h.0), rw (length-drop p d) (omega (arith, h.1)))
meets_shift d (Search s) p i j after within h =
    let from : i ≤ h.0 = h.1.after in
    let a : i ≡ p + (i - p) = omega arith in
    let b : h.0 ≡ p + (h.0 - p) = omega arith in
    let moved : IsFirst s d (p + (i - p)) (p + (h.0 - p)) = subst (λ n. IsFirst s d n (p + (h.0 - p))) a (subst (λ n. IsFirst s d i n) b h.1) in
    (h.0 - p, first_shift s d p (i - p) (h.0 - p) (omega arith) moved, omega (arith, h.2))
meets_shift d GroupStart p i j after within h = ap (λ n. n - p) h
meets_shift d GroupStop p i j after within h = ap (λ n. n - p) h

pub meets_back : (d : List Base) (item : PatItem) (p i j : ℕ) → p ≤ length d → Meets (drop p d) item i j → Meets d item (p + i) (p + j)
meets_back d (Literal b) p i j within h = (sym (slice_get-drop d p i) ∙ h.0, omega (arith, h.1))
meets_back d (Skip n) p i j within h =
    let inside : j ≤ length d - p = rw (length-drop p d) at h.1 in
    (omega (arith, h.0), omega arith)
meets_back d (Search s) p i j within h = (p + h.0, first_back s d p i h.0 within h.1, omega (arith, h.2))
meets_back d GroupStart p i j within h = ap (λ n. p + n) h
meets_back d GroupStop p i j within h = ap (λ n. p + n) h

-- a place as it is counted from another one
abbrev pub back : ℕ → ℕ → ℕ
back p n = n - p

pub through_shift : (d : List Base) (items : List PatItem) (p i : ℕ) (ps : List ℕ) → p ≤ i → i ≤ length d → LeadThrough d items i ps → LeadThrough (drop p d) items (i - p) (map (back p) ps)
through_shift d [] p i [] after within h = tt
through_shift d [] p i (j ∷ ps) after within h = absurd h
through_shift d (item ∷ items) p i [] after within h = absurd h
through_shift d (item ∷ items) p i (j ∷ ps) after within h =
    let on : (i ≤ j) × (j ≤ length d) = meets_rise d item i j h.0 within in
    (meets_shift d item p i j after within h.0, through_shift d items p j ps (omega (arith, on.0)) on.1 h.1)

pub through_back : (d : List Base) (items : List PatItem) (p i : ℕ) (ps : List ℕ) → p ≤ length d → LeadThrough (drop p d) items i ps → LeadThrough d items (p + i) (map (λ n. p + n) ps)
through_back d [] p i [] within h = tt
through_back d [] p i (j ∷ ps) within h = absurd h
through_back d (item ∷ items) p i [] within h = absurd h
through_back d (item ∷ items) p i (j ∷ ps) within h =
    (meets_back d item p i j within h.0, through_back d items p j ps within h.1)

pub index-back : (p : ℕ) (ps : List ℕ) (n : ℕ) → get_or (map (back p) ps) n 0 ≡ get_or ps n 0 - p
index-back p [] n = omega arith
index-back p (x ∷ ps) zero = refl
index-back p (x ∷ ps) (suc n) = index-back p ps n

pub last-back : (p i : ℕ) (ps : List ℕ) → last_place (map (back p) (i ∷ ps)) ≡ last_place (i ∷ ps) - p
last-back p i [] = refl
last-back p i (j ∷ ps) = last-back p j ps
