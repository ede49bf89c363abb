-- Scripts write one text.
use Rattle.std.proofs.Common.{◌≡◌, ℕ, ◌+◌, ◌-◌, ◌≤◌, Option, None, List, [], ◌∷◌, ◌++◌, arith, refl, sym, ap, subst, ◌∙◌, append-nil, append_assoc}
use Rattle.fuun_base.specs.declared.letters.Base.{Base}
use Rattle.rewinder.specs.declared.orders.Order.{Order}
use Rattle.rewinder.specs.declared.orders.Order.TheVariants.{Step, Back, Show, Where}
use Rattle.rewinder.specs.declared.orders.Stop.{Stop}
use Rattle.rewinder.specs.Versions.{most_attempts, IsVersion}
use Rattle.rewinder.specs.Places.{Moves}
use Rattle.rewinder.specs.Texts.{order_text, Obeys, Writes}
use Rattle.rewinder.proofs.VersionLemmas.{version_is_one, earlier_version, EarlierVersion}
use Rattle.rewinder.proofs.PlaceLemmas.{one_place, SamePlace, has_nearest, HasNearest}

-- where an order leads
pub record HasMove (limit : ℕ) (start : List Base) (order : Order) (old : ℕ) : Type 0 where
  pub new : ℕ
  pub stop : Option Stop
  pub moves : Moves limit start order old new stop
  pub dna : List Base
  pub version : IsVersion limit start new dna
  pub few : new ≤ most_attempts

pub has_move : (limit : ℕ) (start : List Base) (order : Order) (old : ℕ) (dna : List Base) → old ≤ most_attempts → IsVersion limit start old dna → HasMove limit start order old
has_move limit start (Step count) old dna few version =
    let n : HasNearest limit start (old + count) = has_nearest limit start (old + count) old dna version (omega arith) few in
    record { new = n.place; stop = n.stop; moves = n.is; dna = n.is.dna; version = n.is.version; few = n.is.most }
has_move limit start (Back count) old dna few version =
    let e : EarlierVersion limit start old dna (old - count) = earlier_version limit start old dna (old - count) version (omega arith) in
    record { new = old - count; stop = None; moves = (refl, refl); dna = e.dna; version = e.version; few = omega (arith, few) }
has_move limit start (Show lo hi) old dna few version = record { new = old; stop = None; moves = (refl, refl); dna = dna; version = version; few = few }
has_move limit start Where old dna few version = record { new = old; stop = None; moves = (refl, refl); dna = dna; version = version; few = few }

pub has_text : (limit : ℕ) (start : List Base) (orders : List Order) (place : ℕ) (dna : List Base) → place ≤ most_attempts → IsVersion limit start place dna → (last : ℕ) × (text : List ℕ) × Writes limit start orders place last text
has_text limit start [] place dna few version = (place, [], (refl, refl))
has_text limit start (order ∷ orders) place dna few version =
    let m : HasMove limit start order place = has_move limit start order place dna few version in
    let text : List ℕ = order_text order m.new m.dna m.stop in
    let obeys : Obeys limit start order place m.new text = record { stop = m.stop; moves = m.moves; dna = m.dna; version = m.version; is = refl } in
    let rest : (last : ℕ) × (more : List ℕ) × Writes limit start orders m.new last more = has_text limit start orders m.new m.dna m.few m.version in
    (rest.0, text ++ rest.1, (m.new, text, rest.1, obeys, rest.2, refl))

-- and only there

one_move : (limit : ℕ) (start : List Base) (order : Order) (old a b : ℕ) (s t : Option Stop) → Moves limit start order old a s → Moves limit start order old b t → SamePlace a b s t
one_move limit start (Step count) old a b s t x y = one_place limit start (old + count) a b s t x y
one_move limit start (Back count) old a b s t x y = record { place = x.0 ∙ sym y.0; stop = x.1 ∙ sym y.1 }
one_move limit start (Show lo hi) old a b s t x y = record { place = x.0 ∙ sym y.0; stop = x.1 ∙ sym y.1 }
one_move limit start Where old a b s t x y = record { place = x.0 ∙ sym y.0; stop = x.1 ∙ sym y.1 }

one_order : (limit : ℕ) (start : List Base) (order : Order) (old a b : ℕ) (s t : List ℕ) → Obeys limit start order old a s → Obeys limit start order old b t → (a ≡ b) × (s ≡ t)
one_order limit start order old a b s t x y =
    let same : SamePlace a b x.stop y.stop = one_move limit start order old a b x.stop y.stop x.moves y.moves in
    let there : IsVersion limit start a y.dna = subst (λ n. IsVersion limit start n y.dna) (sym same.place) y.version in
    let dnas : x.dna ≡ y.dna = version_is_one limit start a x.dna y.dna x.version there in
    (same.place, x.is ∙ ap (λ d. order_text order a d x.stop) dnas ∙ ap (λ n. order_text order n y.dna x.stop) same.place ∙ ap (order_text order b y.dna) same.stop ∙ sym y.is)

pub one_text : (limit : ℕ) (start : List Base) (orders : List Order) (place a b : ℕ) (s t : List ℕ) → Writes limit start orders place a s → Writes limit start orders place b t → (a ≡ b) × (s ≡ t)
one_text limit start [] place a b s t x y = (x.0 ∙ sym y.0, x.1 ∙ sym y.1)
one_text limit start (order ∷ orders) place a b s t x y =
    let first : (x.0 ≡ y.0) × (x.1 ≡ y.1) = one_order limit start order place x.0 y.0 x.1 y.1 x.3 y.3 in
    let there : Writes limit start orders x.0 b y.2 = subst (λ n. Writes limit start orders n b y.2) (sym first.0) y.4 in
    let rest : (a ≡ b) × (x.2 ≡ y.2) = one_text limit start orders x.0 a b x.2 y.2 x.4 there in
    (rest.0, x.5 ∙ ap (λ l. l ++ x.2) first.1 ∙ ap (λ l. y.1 ++ l) rest.1 ∙ sym y.5)

-- orders behind others

pub writes_behind : (limit : ℕ) (start : List Base) (xs ys : List Order) (old middle new : ℕ) (s t : List ℕ) → Writes limit start xs old middle s → Writes limit start ys middle new t → Writes limit start (xs ++ ys) old new (s ++ t)
writes_behind limit start [] ys old middle new s t x y =
    subst (λ l. Writes limit start ys old new (l ++ t)) (sym x.1) (subst (λ n. Writes limit start ys n new t) x.0 y)
writes_behind limit start (order ∷ xs) ys old middle new s t x y =
    (x.0, x.1, x.2 ++ t, x.3, writes_behind limit start xs ys x.0 middle new x.2 t x.4 y, ap (λ l. l ++ t) x.5 ∙ append_assoc x.1 x.2 t)

pub writes_one : (limit : ℕ) (start : List Base) (order : Order) (old new : ℕ) (text : List ℕ) → Obeys limit start order old new text → Writes limit start (order ∷ []) old new text
writes_one limit start order old new text x = (new, text, [], x, (refl, refl), sym (append-nil text))
