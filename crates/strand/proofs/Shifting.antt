-- The steps of the table and of the search.
use Rattle.std.proofs.Common.{◌≡◌, ℕ, ◌+◌, ◌-◌, ◌<◌, ◌≤◌, List, length, get_or, arith, sym, ap, ◌∙◌, inl, inr}
use Rattle.std.proofs.lemmas.Bool.{cases_order}
use Rattle.fuun_base.specs.declared.letters.Base.{Base}
use Rattle.fuun_base.specs.declared.letters.Base.TheVariants.{I}
use Rattle.fuun_base.specs.Occurrence.{Stands, IsFirst, IsAbsent}
use Rattle.strand.specs.Shift.{IsFront, IsShift}
use Rattle.strand.proofs.Fronts.{front_shorter, front_more, front_of_stands, stands_of_front, front_shifted, none_passed}

-- no lesser shift serves after one base more than `last`, and this one serves after `last`
pub record IsCandidate (s : List Base) (last shift : ℕ) : Type 0 where
  pub some : 0 < shift
  pub most : shift ≤ last + 1
  pub fits : IsFront s s shift (last - shift)
  pub least : (other : ℕ) → 0 < other → other < shift → IsFront s s other (last + 1 - other) → ⊥

pub shift_of_none : (s : List Base) → IsShift s 0 1
shift_of_none s = record {
  some = omega arith;
  most = omega arith;
  fits = λ k lt. absurd (omega arith);
  least = λ other some before front. absurd (omega arith);
}

pub first_candidate : (s : List Base) (last shift : ℕ) → IsShift s last shift → IsCandidate s last shift
first_candidate s last shift is = record {
  some = is.some;
  most = is.most;
  fits = is.fits;
  least = λ other some before front. is.least other some before (front_shorter s s other (last + 1 - other) (last - other) (omega arith) front);
}

pub next_candidate : (s : List Base) (last shift more : ℕ) → IsCandidate s last shift → shift ≤ last → IsShift s (last - shift) more → (get_or s (last - shift) I ≡ get_or s last I → ⊥) → IsCandidate s last (shift + more)
next_candidate s last shift more is within moves differs = record {
  some = omega (arith, is.some);
  most = omega (arith, moves.most);
  fits = λ k lt. front_shifted s s shift (last - shift) more moves is.fits k (omega arith);
  least = λ other some before front.
      elim (cases_order other shift) [
        | inl same ↦
            let there : other + (last - shift) ≡ last = omega arith in
            differs (sym (front (last - shift) (omega arith)) ∙ ap (λ n. get_or s n I) there)
        | inr (inl less) ↦ is.least other some less front
        | inr (inr greater) ↦
            none_passed s s shift (last - shift) more other moves is.fits greater before
            (front_shorter s s other (last + 1 - other) (shift + (last - shift) - other) (omega arith) front)
      ];
}

pub shift_of_candidate : (s : List Base) (last shift : ℕ) → IsCandidate s last shift → shift ≤ last → get_or s (last - shift) I ≡ get_or s last I → IsShift s (last + 1) shift
shift_of_candidate s last shift is within same = record {
  some = is.some;
  most = omega (arith, is.most);
  fits =
      let there : shift + (last - shift) ≡ last = omega arith in
      let long : last - shift + 1 ≡ last + 1 - shift = omega arith in
      λ k lt. front_more s s shift (last - shift) is.fits (ap (λ n. get_or s n I) there ∙ sym same) k (omega arith);
  least = is.least;
}

pub shift_of_last : (s : List Base) (last shift : ℕ) → IsCandidate s last shift → last < shift → IsShift s (last + 1) shift
shift_of_last s last shift is past = record {
  some = is.some;
  most = omega (arith, is.most);
  fits = λ k lt. absurd (omega (arith, is.most));
  least = is.least;
}

-- a search for s that begins at `from` found so many bases of it at a place, and s nowhere before
pub record IsSought (s d : List Base) (from place found : ℕ) : Type 0 where
  pub after : from ≤ place
  pub within : place ≤ length d
  pub part : found ≤ length s
  pub fits : IsFront s d place found
  pub least : (earlier : ℕ) → from ≤ earlier → earlier < place → Stands s d earlier → ⊥

pub sought_first : (s d : List Base) (from : ℕ) → from ≤ length d → IsSought s d from from 0
sought_first s d from within = record {
  after = omega arith;
  within = within;
  part = omega arith;
  fits = λ k lt. absurd (omega arith);
  least = λ earlier after before. absurd (omega arith);
}

pub sought_more : (s d : List Base) (from place found : ℕ) → IsSought s d from place found → found < length s → get_or d (place + found) I ≡ get_or s found I → IsSought s d from place (found + 1)
sought_more s d from place found is short same = record {
  after = is.after;
  within = is.within;
  part = omega arith;
  fits = front_more s d place found is.fits same;
  least = is.least;
}

pub sought_shifted : (s d : List Base) (from place found shift : ℕ) → IsSought s d from place found → found < length s → place + length s ≤ length d → IsShift s found shift → (get_or d (place + found) I ≡ get_or s found I → ⊥) → IsSought s d from (place + shift) (found - shift)
sought_shifted s d from place found shift is short room moves differs = record {
  after = omega (arith, is.after);
  within = omega (arith, moves.most);
  part = omega arith;
  fits = front_shifted s d place found shift moves is.fits;
  least = λ earlier after before stands.
      let whole : IsFront s d earlier (length s) = front_of_stands s d earlier stands in
      elim (cases_order earlier place) [
        | inl same ↦ differs (ap (λ n. get_or d (n + found) I) (sym same) ∙ whole found short)
        | inr (inl less) ↦ is.least earlier after less stands
        | inr (inr greater) ↦
            none_passed s d place found shift earlier moves is.fits greater before
            (front_shorter s d earlier (length s) (place + found - earlier) (omega arith) whole)
      ];
}

pub first_of_sought : (s d : List Base) (from place found : ℕ) → IsSought s d from place found → found ≡ length s → place + length s ≤ length d → IsFirst s d from place
first_of_sought s d from place found is whole room = record {
  after = is.after;
  stands = stands_of_front s d place room (λ k lt. is.fits k (omega arith));
  least = is.least;
}

pub absent_of_sought : (s d : List Base) (from place found : ℕ) → IsSought s d from place found → length d < place + length s → IsAbsent s d from
absent_of_sought s d from place found is past p after stands = is.least p after (omega (arith, stands.within)) stands
