-- Bases that cells fit, several at a time.
use Rattle.std.proofs.Common.{◌≡◌, ◌≢◌, ◌⊎◌, ℕ, zero, suc, ◌+◌, ◌-◌, ◌<◌, ◌≤◌, inl, inr, Bool, false, Some, List, [], ◌∷◌, ◌++◌, length, get_or, take, drop, map, min, arith, refl, sym, ap, subst, ◌∙◌}
use Rattle.std.specs.Prelude.{slice_get, slice_range}
use Rattle.std.proofs.lemmas.Bool.{cases_lt}
use Rattle.std.proofs.lemmas.List.{get_or-drop, length-drop, length-take-le, take_more, length-map, length-append, map-append, take_rest, take-append-drop}
use Rattle.std.proofs.Math.Seq.{take-append_seam}
use Rattle.std.proofs.lemmas.Option.{slice_get_within, slice_get-get_or, get_or_from_slice_get}
use Rattle.fuun_base.specs.declared.letters.Base.{Base}
use Rattle.fuun_base.specs.declared.letters.Base.TheVariants.{I}
use Rattle.fuun_base.proofs.OccurrenceLemmas.{base_or}
use Rattle.matcher.proofs.Shifts.{slice_get-drop}
use Rattle.rope_search.specs.Begins.{Agrees, BeginsFirst}
use Rattle.sym_strand.specs.declared.cells.Cell.{Cell}
use Rattle.sym_strand.specs.declared.cells.Cell.TheVariants.{Known, Target}
use Rattle.sym_strand.specs.Cells.{places_from}
use Rattle.sym_strand.proofs.Places.{get-places}
use Rattle.sym_strand.proofs.CellLemmas.{get_front}
use Rattle.explainer.specs.Windows.{IsOut, AreOut}
use Rattle.explainer.specs.Fitting.{FitsAlong}
use Rattle.explainer.specs.declared.fitting.Along.{Along}
use Rattle.explainer.specs.declared.fitting.Along.TheVariants.{Same, Other, Holes}
use Rattle.explainer.proofs.ByPlaces.{SoFar}

-- a base of a list and the base at its place in another, which is not the same
pub record Differ (s x : List Base) : Type 0 where
  pub at : ℕ
  pub sought : Base
  pub seen : Base
  pub asks : slice_get s at ≡ Some sought
  pub there : slice_get x at ≡ Some seen
  pub differ : seen ≢ sought

abbrev pub Fit : List Base → List Base → Type 0
Fit s x = (k : ℕ) → k < length s → k < length x → get_or x k I ≡ get_or s k I

pub differ_or : (s x : List Base) → Differ s x ⊎ Fit s x
differ_or [] x = inr (λ k lt lt'. absurd (omega arith))
differ_or (a ∷ s) [] = inr (λ k lt lt'. absurd (omega arith))
differ_or (a ∷ s) (b ∷ x) =
    elim (base_or b a) [
      | inr other ↦ inl (record { at = 0; sought = a; seen = b; asks = refl; there = refl; differ = other })
      | inl same ↦ elim (differ_or s x) [
        | inl d ↦ inl (record { at = suc d.at; sought = d.sought; seen = d.seen; asks = d.asks; there = d.there; differ = d.differ })
        | inr fit ↦ inr (fit_more a b s x same fit)
      ]
    ] where
      fit_more : (a b : Base) (s x : List Base) → b ≡ a → Fit s x → Fit (a ∷ s) (b ∷ x)
      fit_more a b s x same fit zero lt lt' = same
      fit_more a b s x same fit (suc k) lt lt' = fit k (omega arith) (omega arith)

pub known_get : (x : List Base) (k : ℕ) (b : Base) → slice_get x k ≡ Some b → slice_get (map Known x) k ≡ Some (Known b)
known_get [] k b there = cc
known_get (c ∷ x) zero b there = cc
known_get (c ∷ x) (suc k) b there = known_get x k b there

-- bases that are the same as the first of a list, or not

front_same : (s x : List Base) (k : ℕ) (b : Base) → x ≡ take (length x) s → k < length x → slice_get s k ≡ Some b → slice_get x k ≡ Some b
front_same s x k b same inside asks =
    ap (λ l. slice_get l k) same ∙ sym (get_front (take (length x) s) (drop (length x) s) k (let e : length x ≡ length (take (length x) s) = ap length same in omega arith))
    ∙ ap (λ l. slice_get l k) (take-append-drop (length x) s) ∙ asks

pub fits_same : (s x : List Base) → 0 < length x → length x ≤ length s → x ≡ take (length x) s → FitsAlong s (map Known x) (Same (length x))
fits_same s x some most same = (some, most, λ k b inside asks. known_get x k b (front_same s x k b same inside asks))

pub fits_other : (s x : List Base) (k : ℕ) (b c : Base) → slice_get s k ≡ Some b → slice_get x k ≡ Some c → c ≢ b → FitsAlong s (map Known x) (Other k)
fits_other s x k b c asks there differ = (b, c, asks, known_get x k c there, differ)

pub front_more : (s x : List Base) (k : ℕ) (b : Base) → take k x ≡ take k s → k < length x → k < length s → slice_get x k ≡ Some b → slice_get s k ≡ Some b → take (k + 1) x ≡ take (k + 1) s
front_more s x k b same inside inside' there asks =
    take_more x k b inside ∙ ap (λ l. l ++ get_or x k b ∷ []) same
    ∙ ap (λ y. take k s ++ y ∷ []) (get_or_from_slice_get x k b b there ∙ sym (get_or_from_slice_get s k b b asks))
    ∙ sym (take_more s k b inside')

-- more cells behind

pub front_seen : (d old seen : List Base) (count n : ℕ) → count ≡ min n (length d) → seen ≡ take count d ++ drop count old → take count seen ≡ take count d
front_seen d old seen count n number is =
    let size : length (take count d) ≡ count = length-take-le count d (omega arith) in
    ap (take count) is ∙ ap (λ k. take k (take count d ++ drop count old)) (sym size) ∙ take-append_seam (take count d) (drop count old)

pub see_front : (z rest : List Cell) (k : ℕ) (c : Cell) → slice_get z k ≡ Some c → slice_get (z ++ rest) k ≡ Some c
see_front z rest k c there = get_front z rest k (slice_get_within z k c there) ∙ there

pub fits_longer : (s : List Base) (z rest : List Cell) (along : Along) → FitsAlong s z along → FitsAlong s (z ++ rest) along
fits_longer s z rest (Same count) fits = (fits.0, fits.1, λ k b inside asks. see_front z rest k (Known b) (fits.2 k b inside asks))
fits_longer s z rest (Other k) fits = (fits.0, fits.1, fits.2, see_front z rest k (Known fits.1) fits.3, fits.4)
fits_longer s z rest (Holes count) fits = (fits.0, fits.1, λ k inside. let hole = fits.2 k inside in (hole.0, see_front z rest k (Target hole.0) hole.1))

pub fits_front : (s d x : List Base) (along : Along) (count : ℕ) → x ≡ take count d → FitsAlong s (map Known x) along → FitsAlong s (map Known d) along
fits_front s d x along count is fits =
    let whole : map Known x ++ map Known (drop count d) ≡ map Known d =
    sym (map-append Known x (drop count d)) ∙ ap (λ l. map Known (l ++ drop count d)) is ∙ ap (map Known) (take-append-drop count d) in
    subst (λ z. FitsAlong s z along) whole (fits_longer s (map Known x) (map Known (drop count d)) along fits)

pub fits_holes : (s : List Base) (lo n count : ℕ) → 0 < count → count ≤ length s → count ≤ n → FitsAlong s (places_from lo n) (Holes count)
fits_holes s lo n count some most within = (some, most, λ k inside. (lo + k, get-places k lo n (omega arith)))

-- a window, as far as it was compared

pub rest_length : (s : List Base) (done : ℕ) → length (slice_range s done (length s)) ≡ length s - done
rest_length s done = ap length (take_rest s done) ∙ length-drop done s

module _ (s : List Base) (z : List Cell) (place done : ℕ) where
  asked : (k : ℕ) (b : Base) → done ≤ k → slice_get s k ≡ Some b → slice_get (slice_range s done (length s)) (k - done) ≡ Some b
  asked k b past asks =
      let j : done + (k - done) ≡ k = omega arith in
      ap (λ l. slice_get l (k - done)) (take_rest s done) ∙ slice_get-drop s done (k - done) ∙ ap (slice_get s) j ∙ asks

  placed : (k : ℕ) → done ≤ k → slice_get (drop (place + done) z) (k - done) ≡ slice_get z (place + k)
  placed k past =
      let j : place + done + (k - done) ≡ place + k = omega arith in
      slice_get-drop z (place + done) (k - done) ∙ ap (slice_get z) j

  same_there : (count k : ℕ) (b : Base) → FitsAlong (slice_range s done (length s)) (drop (place + done) z) (Same count) → done ≤ k → k < done + count → slice_get s k ≡ Some b → slice_get z (place + k) ≡ Some (Known b)
  same_there count k b fits past inside asks = sym (placed k past) ∙ fits.2 (k - done) b (omega arith) (asked k b past asks)

  hole_there : (count k : ℕ) → FitsAlong (slice_range s done (length s)) (drop (place + done) z) (Holes count) → done ≤ k → k < done + count → (hole : ℕ) × (slice_get z (place + k) ≡ Some (Target hole))
  hole_there count k fits past inside = let hole = fits.2 (k - done) (omega arith) in (hole.0, sym (placed k past) ∙ hole.1)

known_once : (a b : Base) (c : ℕ → Base) (o : List Cell) (k : ℕ) → slice_get o k ≡ Some (Known a) → slice_get o k ≡ Some (Known b) → a ≡ b
known_once a b c o k x y = let e = sym x ∙ y in cc

pub so_far_same_more : (s : List Base) (z : List Cell) (place done count : ℕ) (sure : Bool) → SoFar s z place done sure → FitsAlong (slice_range s done (length s)) (drop (place + done) z) (Same count) → SoFar s z place (done + count) sure
so_far_same_more s z place done count sure far fits = record {
  known = λ e i b inside asks. elim (cases_lt i done) [
    | inl before ↦ far.known e i b before asks
    | inr past ↦ same_there s z place done count i b fits past inside asks
  ];
  hole = λ e. let h = far.hole e in (h.0, h.1, let less : h.0 < done = h.2 in omega arith, h.3);
  agree = λ i b c inside asks seen. elim (cases_lt i done) [
    | inl before ↦ far.agree i b c before asks seen
    | inr past ↦ known_once c b (λ n. b) z (place + i) seen (same_there s z place done count i b fits past inside asks)
  ];
}

pub so_far_holes : (s : List Base) (z : List Cell) (place done count : ℕ) (sure : Bool) → SoFar s z place done sure → FitsAlong (slice_range s done (length s)) (drop (place + done) z) (Holes count) → SoFar s z place (done + count) false
so_far_holes s z place done count sure far fits = record {
  known = λ e. cc;
  hole = λ e. let h = hole_there s z place done count done fits (omega arith) (omega (arith, fits.0)) in (done, h.0, omega (arith, fits.0), h.1);
  agree = λ i b c inside asks seen. elim (cases_lt i done) [
    | inl before ↦ far.agree i b c before asks seen
    | inr past ↦ let h = hole_there s z place done count i fits past inside in let e = sym h.1 ∙ seen in cc
  ];
}

pub out_along : (s : List Base) (z : List Cell) (place done k : ℕ) → FitsAlong (slice_range s done (length s)) (drop (place + done) z) (Other k) → (out : IsOut s z place) × (out.at ≡ done + k)
out_along s z place done k fits = (
  record {
    at = done + k;
    sought = fits.0;
    seen = fits.1;
    asks = sym (ap (λ l. slice_get l k) (take_rest s done) ∙ slice_get-drop s done k) ∙ fits.2;
    there = ap (slice_get z) (let e : place + (done + k) ≡ place + done + k = omega arith in e) ∙ sym (slice_get-drop z (place + done) k) ∙ fits.3;
    differ = fits.4;
  },
  refl,
)

-- places at which the needle does not have the base that differs

pub other_inside : (s : List Base) (z : List Cell) (place at : ℕ) → (out : IsOut s z place) × (out.at ≡ at) → (at < length s) × (place + at < length z)
other_inside s z place at x =
    let out = x.0 in (
      let less : out.at < length s = slice_get_within s out.at out.sought out.asks in omega (arith, x.1),
      let less : place + out.at < length z = slice_get_within z (place + out.at) (Known out.seen) out.there in omega (arith, x.1),
    )

pub out_shifted : (s : List Base) (z : List Cell) (place at shift : ℕ) (seen : Base) → (out : IsOut s z place) × (out.at ≡ at) → slice_get z (place + at) ≡ Some (Known seen) → shift ≤ length (take at s) + 1
    → ((k : ℕ) → k < length (take at s) → length (take at s) < k + shift → slice_get (take at s) k ≡ Some seen → ⊥) → AreOut s z place (place + shift)
out_shifted s z place at shift seen x there most none q past before =
    let inside : at < length s = (other_inside s z place at x).0 in
    let size : length (take at s) ≡ at = length-take-le at s (omega arith) in
    elim (cases_lt place q) [
      | inr here ↦ let same : place ≡ q = omega arith in subst (IsOut s z) same x.0
      | inl behind ↦
          let k : ℕ = place + at - q in
          let sought : Base = get_or s k I in
          let asks : slice_get s k ≡ Some sought = slice_get-get_or s k I (omega arith) in
          let front : slice_get (take at s) k ≡ slice_get s k =
          sym (get_front (take at s) (drop at s) k (omega arith)) ∙ ap (λ l. slice_get l k) (take-append-drop at s) in
          record {
            at = k;
            sought = sought;
            seen = seen;
            asks = asks;
            there = ap (slice_get z) (let e : q + k ≡ place + at = omega arith in e) ∙ there;
            differ = λ same. none k (omega arith) (omega arith) (front ∙ asks ∙ ap (λ b. Some b) (sym same));
          }
    ]

pub out_once : (s : List Base) (z : List Cell) (place at : ℕ) → (out : IsOut s z place) × (out.at ≡ at) → AreOut s z place (place + 1)
out_once s z place at x q past before = let same : place ≡ q = omega arith in subst (IsOut s z) same x.0

-- places at which a needle can't begin

out_there : (s d : List Base) (z rest : List Cell) (place from q : ℕ) → drop place z ≡ map Known (drop from d) ++ rest → place ≤ q → (Agrees s d (from + (q - place)) → ⊥) → IsOut s z q
out_there s d z rest place from q is past none =
    let here : ℕ = from + (q - place) in
    elim (differ_or s (drop here d)) [
      | inr fit ↦ absurd (none (λ k lt inside. sym (get_or-drop here d k I) ∙ fit k lt (omega (arith, length-drop here d))))
      | inl x ↦
          let n : ℕ = q - place + x.at in
          let below : slice_get (drop from d) n ≡ Some x.seen =
          slice_get-drop d from n ∙ ap (slice_get d) (let e : from + n ≡ here + x.at = omega arith in e) ∙ sym (slice_get-drop d here x.at) ∙ x.there in
          record {
            at = x.at;
            sought = x.sought;
            seen = x.seen;
            asks = x.asks;
            there =
                ap (slice_get z) (let e : q + x.at ≡ place + n = omega arith in e) ∙ sym (slice_get-drop z place n) ∙ ap (λ l. slice_get l n) is
                ∙ see_front (map Known (drop from d)) rest n (Known x.seen) (known_get (drop from d) n x.seen below);
            differ = x.differ;
          }
    ]

pub out_before : (s d : List Base) (z rest : List Cell) (place from first : ℕ) → drop place z ≡ map Known (drop from d) ++ rest → BeginsFirst s d from first → AreOut s z place (place + (first - from))
out_before s d z rest place from first is begins q past before =
    out_there s d z rest place from q is past (begins.least (from + (q - place)) (omega arith) (omega arith))

-- a stretch ends within the cells
pub begins_within : (d : List Base) (z rest : List Cell) (place from first : ℕ) → drop place z ≡ map Known (drop from d) ++ rest → place ≤ length z → from ≤ first → first ≤ length d → place + (first - from) ≤ length z
begins_within d z rest place from first is inside after within =
    omega (arith, length-drop place z, ap length is, length-append (map Known (drop from d)) rest, length-map (drop from d) Known, length-drop from d)

pub out_join : (s : List Base) (z : List Cell) (from mid to : ℕ) → AreOut s z from mid → AreOut s z mid to → AreOut s z from to
out_join s z from mid to first last q past before =
    elim (cases_lt q mid) [
      | inl low ↦ first q past low
      | inr high ↦ last q high before
    ]
