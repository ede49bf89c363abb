-- Windows on cells, base by base and place by place.
use Rattle.std.proofs.Common.{◌≡◌, ◌≢◌, ℕ, ◌+◌, ◌<◌, ◌≤◌, inl, inr, Bool, true, false, Some, List, length, arith, sym, ap, subst, ◌∙◌}
use Rattle.std.specs.Prelude.{slice_get}
use Rattle.std.proofs.lemmas.Bool.{cases_lt}
use Rattle.std.proofs.lemmas.Option.{same_Some, slice_get_within}
use Rattle.fuun_base.specs.declared.letters.Base.{Base}
use Rattle.sym_strand.specs.declared.cells.Cell.{Cell}
use Rattle.sym_strand.specs.declared.cells.Cell.TheVariants.{Known, Target}
use Rattle.explainer.specs.Windows.{IsSure, IsOut, IsUnsure, AreOut, IsOutEverywhere}

-- the first bases of a window
pub record SoFar (s : List Base) (z : List Cell) (place k : ℕ) (sure : Bool) : Type 0 where
  pub known : sure ≡ true → (i : ℕ) (b : Base) → i < k → slice_get s i ≡ Some b → slice_get z (place + i) ≡ Some (Known b)
  pub hole : sure ≡ false → (at : ℕ) × (hole : ℕ) × (at < k) × (slice_get z (place + at) ≡ Some (Target hole))
  pub agree : (i : ℕ) (b c : Base) → i < k → slice_get s i ≡ Some b → slice_get z (place + i) ≡ Some (Known c) → c ≡ b

pub so_far_none : (s : List Base) (z : List Cell) (place : ℕ) → SoFar s z place 0 true
so_far_none s z place = record {
  known = λ e i b inside. absurd (omega arith);
  hole = λ e. cc;
  agree = λ i b c inside. absurd (omega arith);
}

known_same : (a b : Base) → ◌≡◌ (Some (Known a)) (Some (Known b)) → a ≡ b
known_same a b e = cc

-- where a fact holds below a place and there
up_to : (P : ℕ → Type 0) (k i : ℕ) → i < k + 1 → (i < k → P i) → P k → P i
up_to P k i inside below here =
    elim (cases_lt i k) [
      | inl less ↦ below less
      | inr past ↦ let same : k ≡ i = omega arith in subst P same here
    ]

pub so_far_same : (s : List Base) (z : List Cell) (place k : ℕ) (sure : Bool) (b : Base) (cell : Cell) → SoFar s z place k sure → slice_get s k ≡ Some b
    → slice_get z (place + k) ≡ Some cell → cell ≡ Known b → SoFar s z place (k + 1) sure
so_far_same s z place k sure b cell far asks there is =
    let here : slice_get z (place + k) ≡ Some (Known b) = there ∙ ap (λ c. Some c) is in
    record {
      known = λ e i x inside. up_to (λ n. slice_get s n ≡ Some x → slice_get z (place + n) ≡ Some (Known x)) k i inside (λ less. far.known e i x less)
          (λ same. here ∙ ap (λ y. Some (Known y)) (same_Some b x (sym asks ∙ same)));
      hole = λ e. let h = far.hole e in (h.0, h.1, let less : h.0 < k = h.2 in omega arith, h.3);
      agree = λ i x c inside. up_to (λ n. slice_get s n ≡ Some x → slice_get z (place + n) ≡ Some (Known c) → c ≡ x) k i inside (λ less. far.agree i x c less)
          (λ same seen. known_same c b (sym seen ∙ here) ∙ same_Some b x (sym asks ∙ same));
    }

pub so_far_hole : (s : List Base) (z : List Cell) (place k hole : ℕ) (sure : Bool) (cell : Cell) → SoFar s z place k sure
    → slice_get z (place + k) ≡ Some cell → cell ≡ Target hole → SoFar s z place (k + 1) false
so_far_hole s z place k hole sure cell far there is =
    let here : slice_get z (place + k) ≡ Some (Target hole) = there ∙ ap (λ c. Some c) is in
    record {
      known = λ e. cc;
      hole = λ e. (k, hole, omega arith, here);
      agree = λ i x c inside. up_to (λ n. slice_get s n ≡ Some x → slice_get z (place + n) ≡ Some (Known c) → c ≡ x) k i inside (λ less. far.agree i x c less)
          (λ same seen. absurd (let t = here in cc));
    }

pub out_here : (s : List Base) (z : List Cell) (place k : ℕ) (b seen : Base) (cell : Cell) → slice_get s k ≡ Some b → slice_get z (place + k) ≡ Some cell → cell ≡ Known seen → seen ≢ b → IsOut s z place
out_here s z place k b seen cell asks there is differ = record {
  at = k;
  sought = b;
  seen = seen;
  asks = asks;
  there = there ∙ ap (λ c. Some c) is;
  differ = differ;
}

pub sure_of : (s : List Base) (z : List Cell) (place k : ℕ) (sure : Bool) → SoFar s z place k sure → length s ≤ k → place + length s ≤ length z → sure ≡ true → IsSure s z place
sure_of s z place k sure far all within is = record {
  within = within;
  there = λ i b asks. far.known is i b (let inside : i < length s = slice_get_within s i b asks in omega arith) asks;
}

pub unsure_of : (s : List Base) (z : List Cell) (place k : ℕ) (sure : Bool) → SoFar s z place k sure → k ≤ length s → length s ≤ k → place + length s ≤ length z → sure ≡ false → IsUnsure s z place
unsure_of s z place k sure far most all within is =
    let h = far.hole is in
    record {
      within = within;
      at = h.0;
      inside = let less : h.0 < k = h.2 in omega arith;
      hole = h.1;
      there = h.3;
      agree = λ i b c asks. far.agree i b c (let inside : i < length s = slice_get_within s i b asks in omega arith) asks;
    }

-- place by place

pub out_more : (s : List Base) (z : List Cell) (from place : ℕ) → AreOut s z from place → IsOut s z place → AreOut s z from (place + 1)
out_more s z from place out here q after before = up_to (λ n. from ≤ n → IsOut s z n) place q before (λ less low. out q low less) (λ low. here) after

pub out_inside : (s : List Base) (z : List Cell) (place : ℕ) → IsOut s z place → 0 < length s
out_inside s z place out = let inside : out.at < length s = slice_get_within s out.at out.sought out.asks in omega arith

pub out_everywhere : (s : List Base) (z : List Cell) (from place : ℕ) → AreOut s z from place → length z < place + length s → IsOutEverywhere s z from
out_everywhere s z from place out past q after within = out q after (omega arith)
