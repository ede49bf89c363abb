-- How a search goes through parts.
use Rattle.std.proofs.Common.{◌≡◌, ℕ, ◌+◌, ◌-◌, ◌<◌, ◌≤◌, List, ◌++◌, Option, Some, None, option_map, IfSome, length, take, drop, slice_range, get_or, arith, sym, ap, ◌∙◌, inl, inr, length-append, length-drop, subst}
use Rattle.std.proofs.lemmas.List.{get_or-take, get_or-drop, length-take-le, ext_get_or, get_or_append_left, get_or-append-add}
use Rattle.std.proofs.lemmas.Bool.{cases_lt}
use Rattle.fuun_base.specs.declared.letters.Base.{Base}
use Rattle.fuun_base.specs.declared.letters.Base.TheVariants.{I}
use Rattle.fuun_base.specs.Occurrence.{Stands, IsFirst, IsAbsent}
use Rattle.rope_search.specs.Automaton.{IsNext}
use Rattle.rope_search.specs.Sought.{LiesIn, IsSought, Goes, Searched, Begins}

-- where s stands, each of its bases does
pub stands_at : (s d : List Base) (place : ℕ) → Stands s d place → (k : ℕ) → k < length s → get_or d (place + k) I ≡ get_or s k I
stands_at s d place stands k lt =
    let n : ℕ = place + length s - place in
    let short : k < n = omega arith in
    sym (get_or-drop place d k I) ∙ sym (get_or-take n (drop place d) k I short) ∙ ap (λ e. get_or e k I) stands.there

pub stands_of : (s d : List Base) (place : ℕ) → place + length s ≤ length d → ((k : ℕ) → k < length s → get_or d (place + k) I ≡ get_or s k I) → Stands s d place
stands_of s d place within same =
    let n : ℕ = place + length s - place in
    let room : n ≤ length (drop place d) = omega (arith, length-drop place d) in
    let long : length (take n (drop place d)) ≡ length s = omega (arith, length-take-le n (drop place d) room) in
    record {
      within = within;
      there = ext_get_or I (take n (drop place d)) s long
          (λ k lt. let short : k < n = omega arith in get_or-take n (drop place d) k I short ∙ get_or-drop place d k I ∙ same k (omega arith));
    }

-- a search at its start
pub sought_first : (s d : List Base) (from : ℕ) → from ≤ length d → IsSought s d from from 0
sought_first s d from within = record {
  after = omega arith;
  within = within;
  part = omega arith;
  fits = λ j k lt same. absurd (omega arith);
  least = λ p after before stands. absurd (omega arith);
}

-- one base more
pub sought_next : (s d : List Base) (from at found : ℕ) (base : Base) (next : ℕ) → IsSought s d from at found → found < length s → at < length d → get_or d at I ≡ base → IsNext s found base next → IsSought s d from (at + 1) next
sought_next s d from at found base next is short room here step =
    let most : next ≤ found + 1 = step.ends.most in
    let after : from + found ≤ at = is.after in
    record {
      after = omega arith;
      within = omega arith;
      part = omega arith;
      fits = λ j k lt same.
          elim (cases_lt j at) [
            | inl before ↦
                let low : at ≤ j + found = omega arith in
                let near : ℕ = j + found - at in
                let there : j + found ≡ at + near = omega arith in
                is.fits j near (omega arith) there ∙ step.ends.before near k (omega arith) (omega arith)
            | inr not_before ↦
                let there : j ≡ at = omega arith in
                ap (λ n. get_or d n I) there ∙ here ∙ step.ends.last k (omega arith)
          ];
      least = λ p past before stands.
          elim (cases_lt (p + found) at) [
            | inl early ↦ is.least p past early stands
            | inr late ↦
                let len : ℕ = at + 1 - p in
                step.longest len (omega arith) (record {
                  most = omega arith;
                  before = λ j k lt same.
                      let place : ℕ = at - found + j in
                      let moved : place + found ≡ at + j = omega arith in
                      let there : place ≡ p + k = omega arith in
                      sym (is.fits place j lt moved) ∙ ap (λ n. get_or d n I) there ∙ stands_at s d p stands k (omega arith);
                  last = λ k same.
                      let there : at ≡ p + k = omega arith in
                      sym here ∙ ap (λ n. get_or d n I) there ∙ stands_at s d p stands k (omega arith);
                })
          ];
    }

-- with nothing found, past places where s does not stand
pub sought_past : (s d : List Base) (from at count : ℕ) → IsSought s d from at 0 → at + count ≤ length d → ((p : ℕ) → at ≤ p → p < at + count → Stands s d p → ⊥) → IsSought s d from (at + count) 0
sought_past s d from at count is room none = record {
  after = omega (arith, is.after);
  within = room;
  part = omega arith;
  fits = λ j k lt same. absurd (omega arith);
  least = λ p past before stands.
      elim (cases_lt p at) [
        | inl early ↦ is.least p past (omega arith) stands
        | inr late ↦ none p late (omega arith) stands
      ];
}

pub goes_none : (s part : List Base) (a found : ℕ) → Goes s part a found a found
goes_none s part a found d from place lies is = is

pub goes_then : (s part : List Base) (a f b g c h : ℕ) → Goes s part a f b g → Goes s part b g c h → Goes s part a f c h
goes_then s part a f b g c h first last d from place lies is = last d from place lies (first d from place lies is)

pub goes_next : (s part : List Base) (at found : ℕ) (base : Base) (next : ℕ) → found < length s → at < length part → get_or part at I ≡ base → IsNext s found base next → Goes s part at found (at + 1) next
goes_next s part at found base next short room here step d from place lies is =
    let moved : place + (at + 1) ≡ place + at + 1 = omega arith in
    rw moved (sought_next s d from (place + at) found base next is short (omega (arith, lies.within)) (lies.same at room ∙ here) step)

-- a part within a part
pub goes_within : (s part whole : List Base) (off a f b g : ℕ) → LiesIn part whole off → Goes s part a f b g → Goes s whole (off + a) f (off + b) g
goes_within s part whole off a f b g inside goes d from place lies is =
    let moved : place + (off + a) ≡ place + off + a = omega arith in
    let moved' : place + (off + b) ≡ place + off + b = omega arith in
    let deep : LiesIn part d (place + off) = record {
      within = omega (arith, lies.within, inside.within);
      same = λ k lt.
          let there : place + off + k ≡ place + (off + k) = omega arith in
          ap (λ n. get_or d n I) there ∙ lies.same (off + k) (omega (arith, inside.within)) ∙ inside.same k lt;
    } in
    rw moved' (goes d from (place + off) deep (subst (λ n. IsSought s d from n f) moved is))

pub lies_whole : (d : List Base) → LiesIn d d 0
lies_whole d = record { within = omega arith; same = λ k lt. let is : 0 + k ≡ k = omega arith in ap (λ n. get_or d n I) is }

pub lies_left : (l r : List Base) → LiesIn l (l ++ r) 0
lies_left l r = record {
  within = omega (arith, length-append l r);
  same = λ k lt. let is : 0 + k ≡ k = omega arith in ap (λ n. get_or (l ++ r) n I) is ∙ get_or_append_left l r I k lt;
}

pub lies_right : (l r : List Base) → LiesIn r (l ++ r) (length l)
lies_right l r = record { within = omega (arith, length-append l r); same = λ k lt. get_or-append-add l r k I }

pub lies_range : (d : List Base) (lo len : ℕ) → lo + len ≤ length d → LiesIn (take len (drop lo d)) d lo
lies_range d lo len within =
    let room : len ≤ length (drop lo d) = omega (arith, length-drop lo d) in
    let size : length (take len (drop lo d)) ≡ len = length-take-le len (drop lo d) room in
    record {
      within = omega arith;
      same = λ k lt. let short : k < len = omega arith in sym (get_or-take len (drop lo d) k I short ∙ get_or-drop lo d k I);
    }

pub lies_rest : (d : List Base) (lo : ℕ) → lo ≤ length d → LiesIn (slice_range d lo (length d)) d lo
lies_rest d lo within = lies_range d lo (length d - lo) (omega arith)

pub length-rest : (d : List Base) (lo : ℕ) → lo ≤ length d → length (slice_range d lo (length d)) ≡ length d - lo
length-rest d lo within = length-take-le (length d - lo) (drop lo d) (omega (arith, length-drop lo d))

-- past a block in which s begins nowhere
pub goes_block : (s part block : List Base) (at count : ℕ) → 6 ≤ length s → LiesIn block part at → count + 6 ≤ length block → ((k : ℕ) → k < count → Begins s block k → ⊥) → Goes s part at 0 (at + count) 0
goes_block s part block at count long inside room none d from place lies is =
    let moved : place + (at + count) ≡ place + at + count = omega arith in
    let fits : place + length part ≤ length d = lies.within in
    let fits' : at + length block ≤ length part = inside.within in
    rw moved (sought_past s d from (place + at) count is (omega arith)
    (λ p past before stands.
    let near : ℕ = p - (place + at) in
    none near (omega arith) (λ k lt.
    let same : place + (at + (near + k)) ≡ p + k = omega arith in
    sym (inside.same (near + k) (omega arith)) ∙ sym (lies.same (at + (near + k)) (omega arith)) ∙ ap (λ n. get_or d n I) same ∙ stands_at s d p stands k (omega arith))))

-- where the whole needle is found
pub first_of_sought : (s d : List Base) (from end place : ℕ) → IsSought s d from end (length s) → place + length s ≡ end → IsFirst s d from place
first_of_sought s d from end place is whole = record {
  after = omega (arith, is.after);
  stands = stands_of s d place (omega (arith, is.within)) (λ k lt. is.fits (place + k) k lt (omega arith));
  least = λ p past before stands. is.least p past (omega arith) stands;
}

-- where a search comes to the end with less than the needle found
pub absent_of_sought : (s d : List Base) (from found : ℕ) → IsSought s d from (length d) found → found < length s → IsAbsent s d from
absent_of_sought s d from found is short p past stands = is.least p past (omega (arith, stands.within)) stands

-- a search of a part that ends the whole is one of the whole
pub searched_end : (s part whole : List Base) (off a f : ℕ) (o : Option ℕ) (g at : ℕ) → LiesIn part whole off → off + length part ≡ length whole → off + a ≡ at → Searched s part a f o g → Searched s whole at f (option_map (λ n. off + n) o) g
searched_end s part whole off a f None g at inside all start is =
    (is.0, subst (λ n. Goes s whole at f n g) all (subst (λ n. Goes s whole n f (off + length part) g) start (goes_within s part whole off a f (length part) g inside is.1)))
searched_end s part whole off a f (Some end) g at inside all start is =
    (omega (arith, is.0), subst (λ n. Goes s whole n f (off + end) (length s)) start (goes_within s part whole off a f end (length s) inside is.1))

pub searched_within : (s part : List Base) (a f : ℕ) (o : Option ℕ) (g by most : ℕ) → Searched s part a f o g → by + length part < most → IfSome o (λ n. by + n < most)
searched_within s part a f None g by most is small = tt
searched_within s part a f (Some end) g by most is small = omega (arith, is.0)

pub searched_then : (s d : List Base) (a f b g : ℕ) (o : Option ℕ) (h : ℕ) → Goes s d a f b g → Searched s d b g o h → Searched s d a f o h
searched_then s d a f b g None h goes is = (is.0, goes_then s d a f b g (length d) h goes is.1)
searched_then s d a f b g (Some end) h goes is = (is.0, goes_then s d a f b g end (length s) goes is.1)

-- the left side ends where the right one begins
pub goes_left : (s l r : List Base) (a f b g : ℕ) → Goes s l a f b g → Goes s (l ++ r) a f b g
goes_left s l r a f b g goes =
    let start : 0 + a ≡ a = omega arith in
    let end : 0 + b ≡ b = omega arith in
    subst (λ n. Goes s (l ++ r) a f n g) end (subst (λ n. Goes s (l ++ r) n f (0 + b) g) start (goes_within s l (l ++ r) 0 a f b g (lies_left l r) goes))

-- a search of two sides: in the right one, in the left one, or in both
pub searched_right : (s l r : List Base) (lo f : ℕ) (o : Option ℕ) (g seam : ℕ) → seam ≡ length l → seam ≤ lo → Searched s r (lo - seam) f o g → Searched s (l ++ r) lo f (option_map (λ n. seam + n) o) g
searched_right s l r lo f o g seam here past is =
    searched_end s r (l ++ r) seam (lo - seam) f o g lo (subst (LiesIn r (l ++ r)) (sym here) (lies_right l r)) (omega (arith, length-append l r)) (omega arith) is

pub searched_left : (s l r : List Base) (lo f end g : ℕ) → Searched s l lo f (Some end) g → Searched s (l ++ r) lo f (Some end) g
searched_left s l r lo f end g is = (omega (arith, length-append l r, is.0), goes_left s l r lo f end (length s) is.1)

pub searched_both : (s l r : List Base) (lo f g : ℕ) (o : Option ℕ) (h seam : ℕ) → seam ≡ length l → Searched s l lo f None g → Searched s r 0 g o h → Searched s (l ++ r) lo f (option_map (λ n. seam + n) o) h
searched_both s l r lo f g o h seam here left right =
    searched_then s (l ++ r) lo f (length l) g (option_map (λ n. seam + n) o) h (goes_left s l r lo f (length l) g left.1)
    (searched_end s r (l ++ r) seam 0 g o h (length l) (subst (LiesIn r (l ++ r)) (sym here) (lies_right l r)) (omega (arith, length-append l r)) (omega arith) right)

-- a search of what is left of a leaf
pub searched_rest : (s d : List Base) (lo f : ℕ) (o : Option ℕ) (g : ℕ) → lo ≤ length d → Searched s (slice_range d lo (length d)) 0 f o g → Searched s d lo f (option_map (λ n. lo + n) o) g
searched_rest s d lo f o g within is =
    searched_end s (slice_range d lo (length d)) d lo 0 f o g lo (lies_rest d lo within) (omega (arith, length-rest d lo within)) (omega arith) is

-- a part that is searched in the middle of a walk
pub goes_on : (s d : List Base) (first f0 at f near stop end g : ℕ) → near ≤ stop → stop ≤ length d → Goes s d first f0 at f → Goes s d at f near f → Goes s (slice_range d near stop) 0 f end g → Goes s d first f0 (near + end) g
goes_on s d first f0 at f near stop end g order within before passed walked =
    let inside : LiesIn (slice_range d near stop) d near = lies_range d near (stop - near) (omega arith) in
    let start : near + 0 ≡ near = omega arith in
    let walk : Goes s d near f (near + end) g = subst (λ n. Goes s d n f (near + end) g) start (goes_within s (slice_range d near stop) d near 0 f end g inside walked) in
    goes_then s d first f0 near f (near + end) g (goes_then s d first f0 at f near f before passed) walk

-- the answers of a search of all
sought_from : (s d : List Base) (lo b g : ℕ) → lo ≤ length d → Goes s d lo 0 b g → IsSought s d lo b g
sought_from s d lo b g within goes =
    let start : lo ≡ 0 + lo = omega arith in
    let end : 0 + b ≡ b = omega arith in
    subst (λ n. IsSought s d lo n g) end (goes d lo 0 (lies_whole d) (subst (λ n. IsSought s d lo n 0) start (sought_first s d lo within)))

pub end_above : (s d : List Base) (lo end g : ℕ) → lo ≤ length d → Searched s d lo 0 (Some end) g → lo + length s ≤ end
end_above s d lo end g within is = (sought_from s d lo end (length s) within is.1).after

pub first_of_searched : (s d : List Base) (lo end g place : ℕ) → lo ≤ length d → Searched s d lo 0 (Some end) g → place + length s ≡ end → IsFirst s d lo place
first_of_searched s d lo end g place within is whole = first_of_sought s d lo end place (sought_from s d lo end (length s) within is.1) whole

pub absent_of_searched : (s d : List Base) (lo g : ℕ) → lo ≤ length d → Searched s d lo 0 None g → IsAbsent s d lo
absent_of_searched s d lo g within is = absent_of_sought s d lo g (sought_from s d lo (length d) g within is.1) is.0

-- a needle longer than what is left
pub absent_of_long : (s d : List Base) (lo : ℕ) → length d - lo < length s → IsAbsent s d lo
absent_of_long s d lo long p past stands = absurd (omega (arith, stands.within))

-- the needle of no bases
pub first_of_none : (s d : List Base) (lo : ℕ) → lo ≤ length d → length s ≡ 0 → IsFirst s d lo lo
first_of_none s d lo within none = record {
  after = omega arith;
  stands = stands_of s d lo (omega arith) (λ k lt. absurd (omega arith));
  least = λ p past before stands. absurd (omega arith);
}
