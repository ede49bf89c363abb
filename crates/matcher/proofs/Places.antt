-- Lists of places that items lead through.
use Rattle.std.proofs.Common.{◌≡◌, ℕ, ◌+◌, ◌<◌, ◌≤◌, List, [], ◌∷◌, ◌++◌, length, get_or, arith, refl, ap, sym, ◌∙◌, subst}
use Rattle.std.proofs.lemmas.Option.{slice_get_within}
use Rattle.fuun_base.specs.declared.letters.Base.{Base}
use Rattle.fuun_base.proofs.OccurrenceLemmas.{first_is_one}
use Rattle.dna_items.specs.declared.items.PatItem.{PatItem}
use Rattle.dna_items.specs.declared.items.PatItem.TheVariants.{Base as Literal, Skip, Search, GroupStart, GroupStop}
use Rattle.matcher.specs.Match.{Meets, LeadThrough, last_place}

pub meets_same : (d : List Base) (item : PatItem) (i j j' : ℕ) → Meets d item i j → Meets d item i j' → j ≡ j'
meets_same d (Literal b) i j j' x y = x.1 ∙ sym y.1
meets_same d (Skip n) i j j' x y = x.0 ∙ sym y.0
meets_same d (Search s) i j j' x y =
    let e : x.0 ≡ y.0 = first_is_one s d i x.0 y.0 x.1 y.1 in
    x.2 ∙ ap (λ n. n + length s) e ∙ sym y.2
meets_same d GroupStart i j j' x y = x ∙ sym y
meets_same d GroupStop i j j' x y = x ∙ sym y

pub meets_rise : (d : List Base) (item : PatItem) (i j : ℕ) → Meets d item i j → i ≤ length d → (i ≤ j) × (j ≤ length d)
meets_rise d (Literal b) i j x h =
    let within : i < length d = slice_get_within d i b x.0 in
    (omega (arith, x.1), omega (arith, x.1))
meets_rise d (Skip n) i j x h = (omega (arith, x.0), x.1)
meets_rise d (Search s) i j x h = (omega (arith, x.2, x.1.after), omega (arith, x.2, x.1.stands.within))
meets_rise d GroupStart i j x h = (omega arith, omega arith)
meets_rise d GroupStop i j x h = (omega arith, omega arith)

pub through_length : (d : List Base) (items : List PatItem) (i : ℕ) (ps : List ℕ) → LeadThrough d items i ps → length ps ≡ length items
through_length d [] i [] h = refl
through_length d [] i (j ∷ ps) h = absurd h
through_length d (item ∷ items) i [] h = absurd h
through_length d (item ∷ items) i (j ∷ ps) h = omega (arith, through_length d items j ps h.1)

pub through_same : (d : List Base) (items : List PatItem) (i : ℕ) (ps qs : List ℕ) → LeadThrough d items i ps → LeadThrough d items i qs → ps ≡ qs
through_same d [] i [] [] x y = refl
through_same d [] i [] (j ∷ qs) x y = absurd y
through_same d [] i (j ∷ ps) qs x y = absurd x
through_same d (item ∷ items) i [] qs x y = absurd x
through_same d (item ∷ items) i (j ∷ ps) [] x y = absurd y
through_same d (item ∷ items) i (j ∷ ps) (j' ∷ qs) x y =
    let e : j ≡ j' = meets_same d item i j j' x.0 y.0 in
    let rest : ps ≡ qs = through_same d items j ps qs x.1 (subst (λ n. LeadThrough d items n qs) (sym e) y.1) in
    cc

pub through_rise : (d : List Base) (items : List PatItem) (i : ℕ) (ps : List ℕ) → LeadThrough d items i ps → i ≤ length d → (i ≤ last_place (i ∷ ps)) × (last_place (i ∷ ps) ≤ length d)
through_rise d [] i [] h within = (omega arith, within)
through_rise d [] i (j ∷ ps) h within = absurd h
through_rise d (item ∷ items) i [] h within = absurd h
through_rise d (item ∷ items) i (j ∷ ps) h within =
    let here : (i ≤ j) × (j ≤ length d) = meets_rise d item i j h.0 within in
    let rest : (j ≤ last_place (j ∷ ps)) × (last_place (j ∷ ps) ≤ length d) = through_rise d items j ps h.1 here.1 in
    (omega (arith, here.0, rest.0), rest.1)

pub through-append : (d : List Base) (a b : List PatItem) (i : ℕ) (ps qs : List ℕ) → LeadThrough d a i ps → LeadThrough d b (last_place (i ∷ ps)) qs → LeadThrough d (a ++ b) i (ps ++ qs)
through-append d [] b i [] qs x y = y
through-append d [] b i (j ∷ ps) qs x y = absurd x
through-append d (item ∷ a) b i [] qs x y = absurd x
through-append d (item ∷ a) b i (j ∷ ps) qs x y = (x.0, through-append d a b j ps qs x.1 y)

pub last-append : (i : ℕ) (ps qs : List ℕ) → last_place (i ∷ (ps ++ qs)) ≡ last_place (last_place (i ∷ ps) ∷ qs)
last-append i [] qs = refl
last-append i (j ∷ ps) qs = last-append j ps qs

pub last_place-index : (i : ℕ) (ps : List ℕ) → last_place (i ∷ ps) ≡ get_or (i ∷ ps) (length ps) 0
last_place-index i [] = refl
last_place-index i (j ∷ ps) = last_place-index j ps

-- places in two parts, as the items are
pub record Parts (d : List Base) (a b : List PatItem) (i : ℕ) : Type 0 where
  pub front : List ℕ
  pub back : List ℕ
  pub first : LeadThrough d a i front
  pub second : LeadThrough d b (last_place (i ∷ front)) back

pub through_parts : (d : List Base) (a b : List PatItem) (i : ℕ) (rs : List ℕ) → LeadThrough d (a ++ b) i rs → Parts d a b i
through_parts d [] b i rs h = record { front = []; back = rs; first = tt; second = h }
through_parts d (item ∷ a) b i [] h = absurd h
through_parts d (item ∷ a) b i (j ∷ rs) h =
    let rest : Parts d a b j = through_parts d a b j rs h.1 in
    record { front = j ∷ rest.front; back = rest.back; first = (h.0, rest.first); second = rest.second }
