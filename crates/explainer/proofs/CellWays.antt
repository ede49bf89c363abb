-- Items go through cells in some way: they lead, or fail, or depend on the target.
use Rattle.std.proofs.Common.{◌≡◌, ℕ, zero, suc, ◌+◌, ◌<◌, ◌≤◌, ◌⊎◌, inl, inr, Bool, true, false, Some, List, [], ◌∷◌, length, arith, refl, subst}
use Rattle.std.specs.Prelude.{slice_get}
use Rattle.std.proofs.lemmas.Bool.{cases_lt}
use Rattle.fuun_base.specs.declared.letters.Base.{Base}
use Rattle.fuun_base.proofs.OccurrenceLemmas.{base_or}
use Rattle.dna_items.specs.declared.items.PatItem.{PatItem}
use Rattle.dna_items.specs.declared.items.PatItem.TheVariants.{Base as Literal, Skip, Search, GroupStart, GroupStop}
use Rattle.sym_strand.specs.declared.cells.Cell.{Cell}
use Rattle.sym_strand.specs.declared.cells.Cell.TheVariants.{Known, Target}
use Rattle.explainer.specs.Windows.{IsSure, IsOut, IsUnsure, AreOut}
use Rattle.explainer.specs.Leading.{Leads, Fails, Depends, LeadAlong, FailAlong, DependAlong}
use Rattle.explainer.proofs.ByPlaces.{SoFar, so_far_none, so_far_same, so_far_hole, out_here, sure_of, unsure_of, out_more, out_inside, out_everywhere}

-- windows

item_at : {A : Type 0} (xs : List A) (k : ℕ) → k < length xs → (x : A) × (slice_get xs k ≡ Some x)
item_at [] k inside = absurd (omega arith)
item_at (x ∷ xs) zero inside = (x, refl)
item_at (x ∷ xs) (suc k) inside = item_at xs k (omega arith)

data Window (s : List Base) (z : List Cell) (place : ℕ) : Type 0 where
  Sure : IsSure s z place → Window s z place
  Out : IsOut s z place → Window s z place
  Unsure : IsUnsure s z place → Window s z place

-- the first bases of a window, where none of them is out
FarOrOut : List Base → List Cell → ℕ → ℕ → Type 0
FarOrOut s z place k = IsOut s z place ⊎ ((sure : Bool) × SoFar s z place k sure)

far_more : (s : List Base) (z : List Cell) (place k : ℕ) (sure : Bool) (b : Base) (cell : Cell) → SoFar s z place k sure → slice_get s k ≡ Some b → slice_get z (place + k) ≡ Some cell → FarOrOut s z place (k + 1)
unfolding FarOrOut
far_more s z place k sure b (Known seen) far asks there =
    elim (base_or seen b) [
      | inl same ↦ inr (sure, so_far_same s z place k sure b (Known seen) far asks there (let e : Known seen ≡ Known b = cc in e))
      | inr differ ↦ inl (out_here s z place k b seen (Known seen) asks there refl differ)
    ]
far_more s z place k sure b (Target hole) far asks there = inr (false, so_far_hole s z place k hole sure (Target hole) far there refl)

far_or_out : (s : List Base) (z : List Cell) (place k : ℕ) → k ≤ length s → place + length s ≤ length z → FarOrOut s z place k
unfolding FarOrOut
far_or_out s z place zero most within = inr (true, so_far_none s z place)
far_or_out s z place (suc k) most within =
    let b = item_at s k (omega arith) in
    let cell = item_at z (place + k) (omega arith) in
    let next : k + 1 ≡ suc k = omega arith in
    elim (far_or_out s z place k (omega arith) within) [
      | inl out ↦ inl out
      | inr far ↦ subst (FarOrOut s z place) next (far_more s z place k far.0 b.0 cell.0 far.1 b.1 cell.1)
    ]

window_by : (s : List Base) (z : List Cell) (place : ℕ) → place + length s ≤ length z → (sure : Bool) → SoFar s z place (length s) sure → Window s z place
window_by s z place within true far = Sure (sure_of s z place (length s) true far (omega arith) within refl)
window_by s z place within false far = Unsure (unsure_of s z place (length s) false far (omega arith) (omega arith) within refl)

window_at : (s : List Base) (z : List Cell) (place : ℕ) → place + length s ≤ length z → Window s z place
unfolding FarOrOut
window_at s z place within =
    elim (far_or_out s z place (length s) (omega arith) within) [
      | inl out ↦ Out out
      | inr far ↦ window_by s z place within far.0 far.1
    ]

-- items

data Way (z : List Cell) (item : PatItem) (i : ℕ) : Type 0 where
  Leading : (j : ℕ) → Leads z item i j → Way z item i
  Failing : Fails z item i → Way z item i
  Depending : Depends z item i → Way z item i

search_by : (s : List Base) (z : List Cell) (from place : ℕ) → from ≤ place → AreOut s z from place → (IsOut s z place → Way z (Search s) from) → Window s z place → Way z (Search s) from
search_by s z from place after out further (Sure sure) = Leading (place + length s) (place, record { after = after; out = out; sure = sure }, refl)
search_by s z from place after out further (Unsure unsure) = Depending (place, record { after = after; out = out; unsure = unsure })
search_by s z from place after out further (Out here) = further here

search_way : (fuel : ℕ) (s : List Base) (z : List Cell) (from place : ℕ) → from ≤ place → AreOut s z from place → length z ≤ place + fuel → Way z (Search s) from
search_way zero s z from place after out fits =
    elim (cases_lt (length z) (place + length s)) [
      | inl past ↦ Failing (out_everywhere s z from place out past)
      | inr within ↦ search_by s z from place after out (λ here. absurd (omega (arith, out_inside s z place here))) (window_at s z place (omega arith))
    ]
search_way (suc fuel) s z from place after out fits =
    elim (cases_lt (length z) (place + length s)) [
      | inl past ↦ Failing (out_everywhere s z from place out past)
      | inr within ↦
          search_by s z from place after out (λ here. search_way fuel s z from (place + 1) (omega arith) (out_more s z from place out here) (omega arith))
          (window_at s z place (omega arith))
    ]

literal_way : (z : List Cell) (b : Base) (i : ℕ) (cell : Cell) → slice_get z i ≡ Some cell → Way z (Literal b) i
literal_way z b i (Known seen) there =
    elim (base_or seen b) [
      | inl same ↦ Leading (i + 1) (let e : slice_get z i ≡ Some (Known b) = cc in e, refl)
      | inr differ ↦ Failing (inr (seen, there, differ))
    ]
literal_way z b i (Target place) there = Depending (place, there)

way_of : (z : List Cell) (item : PatItem) (i : ℕ) → Way z item i
way_of z (Literal b) i =
    elim (cases_lt i (length z)) [
      | inl inside ↦ let cell = item_at z i inside in literal_way z b i cell.0 cell.1
      | inr past ↦ Failing (inl (omega arith))
    ]
way_of z (Skip n) i =
    elim (cases_lt (length z) (i + n)) [
      | inl past ↦ Failing past
      | inr within ↦ Leading (i + n) (refl, omega arith)
    ]
way_of z (Search s) i = search_way (length z) s z i i (omega arith) (λ place after before. absurd (omega arith)) (omega arith)
way_of z GroupStart i = Leading i refl
way_of z GroupStop i = Leading i refl

-- items one after the other

pub data Course (z : List Cell) (items : List PatItem) (i : ℕ) : Type 0 where
  Through : (places : List ℕ) → LeadAlong z items i places → Course z items i
  Stuck : FailAlong z items i → Course z items i
  Open : DependAlong z items i → Course z items i

behind_lead : (z : List Cell) (item : PatItem) (items : List PatItem) (i j : ℕ) → Leads z item i j → Course z items j → Course z (item ∷ items) i
behind_lead z item items i j leads (Through places along) = Through (j ∷ places) (leads, along)
behind_lead z item items i j leads (Stuck fails) = Stuck (inr (j, leads, fails))
behind_lead z item items i j leads (Open depends) = Open (inr (j, leads, depends))

course_by : (z : List Cell) (item : PatItem) (items : List PatItem) (i : ℕ) → ((j : ℕ) → Course z items j) → Way z item i → Course z (item ∷ items) i
course_by z item items i rest (Leading j leads) = behind_lead z item items i j leads (rest j)
course_by z item items i rest (Failing fails) = Stuck (inl fails)
course_by z item items i rest (Depending depends) = Open (inl depends)

pub course_of : (z : List Cell) (items : List PatItem) (i : ℕ) → Course z items i
course_of z [] i = Through [] tt
course_of z (item ∷ items) i = course_by z item items i (course_of z items) (way_of z item i)
