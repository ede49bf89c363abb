-- Places that a search keeps open.
use Rattle.std.proofs.Common.{◌≡◌, ◌≢◌, ℕ, zero, suc, ◌+◌, ◌-◌, ◌<◌, ◌≤◌, inl, inr, Some, Result, Ok, Err, List, [], ◌∷◌, ◌++◌, length, get_or, take, drop, map, add-one, arith, refl, sym, ap, subst, ◌∙◌, length-append, length-drop, drop-cons}
use Rattle.std.specs.Prelude.{slice_get, IfOk}
use Rattle.std.proofs.lemmas.Bool.{cases_lt}
use Rattle.std.proofs.lemmas.List.{get_or-drop, get_or-take, length-take-le, get_or-append-add}
use Rattle.std.proofs.lemmas.Option.{slice_get_within, slice_get-get_or, get_or_from_slice_get}
use Rattle.fuun_base.specs.declared.letters.Base.{Base}
use Rattle.fuun_base.specs.declared.letters.Base.TheVariants.{I}
use Rattle.dna_items.specs.declared.items.PatItem.TheVariants.{Search}
use Rattle.matcher.proofs.Shifts.{slice_get-drop}
use Rattle.rope_search.specs.Begins.{Agrees, BeginsFirst}
use Rattle.sym_strand.proofs.CellLemmas.{get_front}
use Rattle.sym_strand.specs.declared.cells.Cell.{Cell}
use Rattle.sym_strand.specs.declared.cells.Cell.TheVariants.{Known}
use Rattle.explainer.specs.Windows.{IsSure, IsOut, IsUnsure, AreOut}
use Rattle.explainer.specs.Passing.{PassesSo}
use Rattle.explainer.specs.declared.passing.Passing.{Passing}
use Rattle.explainer.specs.declared.passing.Passing.TheVariants.{To, Fails, Depends}
use Rattle.explainer.specs.Repeats.{IsFront, FrontsTo, AreFronts}
use Rattle.explainer.specs.Open.{OutBut, GoesOn, FrontIsThere, GoesOnAlong, LiesFrom}
use Rattle.explainer.proofs.ByPlaces.{out_more}
use Rattle.explainer.proofs.FitLemmas.{differ_or, known_get, see_front, out_join}

pub out_none : (s : List Base) (z : List Cell) (place : ℕ) → AreOut s z place place
out_none s z place q past before = absurd (omega arith)

pub out_but_later : (s : List Base) (z : List Cell) (from : ℕ) (begun : List ℕ) (x y : ℕ) → OutBut s z from begun x → x ≤ y → AreOut s z x y → OutBut s z from begun y
out_but_later s z from [] x y far less out = (omega (arith, far.0), out_join s z from x y far.1 out)
out_but_later s z from (p ∷ begun) x y far less out = (far.0, far.1, out_but_later s z (p + 1) begun x y far.2 less out)

pub out_but_more : (s : List Base) (z : List Cell) (from : ℕ) (begun : List ℕ) (x : ℕ) → OutBut s z from begun x → OutBut s z from (begun ++ x ∷ []) (x + 1)
out_but_more s z from [] x far = (far.0, far.1, (let e : x + 1 ≤ x + 1 = omega arith in e, out_none s z (x + 1)))
out_but_more s z from (p ∷ begun) x far = (far.0, far.1, out_but_more s z (p + 1) begun x far.2)

pub out_once_here : (s : List Base) (z : List Cell) (place : ℕ) → IsOut s z place → AreOut s z place (place + 1)
out_once_here s z place out = out_more s z place place (out_none s z place) out

-- steps of going on

pub goes_more : (s : List Base) (z : List Cell) (begun : List ℕ) (to : ℕ) (later new : List ℕ) (x next : ℕ) → GoesOn s z begun to later x → new ≡ later ++ x ∷ [] → x + 1 ≡ next → GoesOn s z begun to new next
goes_more s z begun to later new x next goes is number from far =
    subst (OutBut s z from new) number (subst (λ l. OutBut s z from l (x + 1)) (sym is) (out_but_more s z from later x (goes from far)))

pub goes_out : (s : List Base) (z : List Cell) (begun : List ℕ) (to : ℕ) (later : List ℕ) (x next : ℕ) → GoesOn s z begun to later x → x ≤ next → AreOut s z x next → GoesOn s z begun to later next
goes_out s z begun to later x next goes less out from far = out_but_later s z from later x next (goes from far) less out

-- open places, gone through from the first

pub record Kept (s : List Base) (z : List Cell) (from to i : ℕ) (begun kept : List ℕ) : Type 0 where
  pub mid : ℕ
  pub before : OutBut s z from kept mid
  pub behind : OutBut s z mid (drop i begun) to

abbrev pub KeptOn : List Base → List Cell → ℕ → List ℕ → ℕ → List ℕ → Type 0
KeptOn s z to begun i kept = (from : ℕ) → OutBut s z from begun to → Kept s z from to i begun kept

pub kept_on_none : (s : List Base) (z : List Cell) (to : ℕ) (begun : List ℕ) → KeptOn s z to begun 0 []
kept_on_none s z to begun from far = record { mid = from; before = (let e : from ≤ from = omega arith in e, out_none s z from); behind = far }

next_behind : (s : List Base) (z : List Cell) (mid i : ℕ) (begun : List ℕ) (to : ℕ) → i < length begun → OutBut s z mid (drop i begun) to → OutBut s z mid (get_or begun i 0 ∷ drop (i + 1) begun) to
next_behind s z mid i begun to inside far =
    let whole : drop i begun ≡ get_or begun i 0 ∷ drop (i + 1) begun = rw (add-one) (drop-cons begun i 0 inside) in
    subst (λ l. OutBut s z mid l to) whole far

pub kept_on_one : (s : List Base) (z : List Cell) (to : ℕ) (begun : List ℕ) (i : ℕ) (kept later : List ℕ) → KeptOn s z to begun i kept → i < length begun → later ≡ kept ++ get_or begun i 0 ∷ [] → KeptOn s z to begun (i + 1) later
kept_on_one s z to begun i kept later far inside is from out =
    let k = far from out in
    let p = get_or begun i 0 in
    let behind : OutBut s z k.mid (p ∷ drop (i + 1) begun) to = next_behind s z k.mid i begun to inside k.behind in
    record {
      mid = p + 1;
      before = subst (λ l. OutBut s z from l (p + 1)) (sym is) (out_but_more s z from kept p (out_but_later s z from kept k.mid p k.before behind.0 behind.1));
      behind = behind.2;
    }

pub kept_on_out : (s : List Base) (z : List Cell) (to : ℕ) (begun : List ℕ) (i : ℕ) (kept : List ℕ) → KeptOn s z to begun i kept → i < length begun → IsOut s z (get_or begun i 0) → KeptOn s z to begun (i + 1) kept
kept_on_out s z to begun i kept far inside here from out =
    let k = far from out in
    let p = get_or begun i 0 in
    let behind : OutBut s z k.mid (p ∷ drop (i + 1) begun) to = next_behind s z k.mid i begun to inside k.behind in
    record {
      mid = p + 1;
      before = out_but_later s z from kept k.mid (p + 1) k.before (omega (arith, behind.0)) (out_more s z k.mid p behind.1 here);
      behind = behind.2;
    }

drop_past : (xs : List ℕ) (i : ℕ) → length xs ≤ i → drop i xs ≡ []
drop_past [] zero past = refl
drop_past [] (suc i) past = refl
drop_past (x ∷ xs) zero past = absurd (omega arith)
drop_past (x ∷ xs) (suc i) past = drop_past xs i (omega arith)

pub kept_on_all : (s : List Base) (z : List Cell) (to : ℕ) (begun : List ℕ) (i : ℕ) (kept : List ℕ) → KeptOn s z to begun i kept → length begun ≤ i → GoesOn s z begun to kept to
kept_on_all s z to begun i kept far past from out =
    let k = far from out in
    let behind : OutBut s z k.mid [] to = subst (λ l. OutBut s z k.mid l to) (drop_past begun i past) k.behind in
    out_but_later s z from kept k.mid to k.before behind.0 behind.1

-- the same wherever some bases stand at a place

abbrev pub KeptTo : List Base → List Base → ℕ → List ℕ → ℕ → List ℕ → Type 0
KeptTo s x place begun i kept = (z : List Cell) → FrontIsThere x (length x) z place → KeptOn s z place begun i kept

pub kept_none : (s x : List Base) (place : ℕ) (begun : List ℕ) → KeptTo s x place begun 0 []
kept_none s x place begun z there = kept_on_none s z place begun

pub kept_one : (s x : List Base) (place : ℕ) (begun : List ℕ) (i : ℕ) (kept later : List ℕ) → KeptTo s x place begun i kept → i < length begun → later ≡ kept ++ get_or begun i 0 ∷ [] → KeptTo s x place begun (i + 1) later
kept_one s x place begun i kept later far inside is z there = kept_on_one s z place begun i kept later (far z there) inside is

pub kept_out : (s x : List Base) (place : ℕ) (begun : List ℕ) (i : ℕ) (kept : List ℕ) → KeptTo s x place begun i kept → i < length begun
    → ((z : List Cell) → FrontIsThere x (length x) z place → IsOut s z (get_or begun i 0)) → KeptTo s x place begun (i + 1) kept
kept_out s x place begun i kept far inside here z there = kept_on_out s z place begun i kept (far z there) inside (here z there)

pub kept_all : (s x : List Base) (place : ℕ) (begun : List ℕ) (i : ℕ) (kept : List ℕ) → KeptTo s x place begun i kept → length begun ≤ i → GoesOnAlong s x begun place kept place
kept_all s x place begun i kept far past z there = kept_on_all s z place begun i kept (far z there) past

-- places at which a list can't stand

pub out_at : (s : List Base) (z : List Cell) (place at : ℕ) (seen : Base) → at < length s → slice_get z (place + at) ≡ Some (Known seen) → seen ≢ get_or s at I → IsOut s z place
out_at s z place at seen inside there differ = record {
  at = at;
  sought = get_or s at I;
  seen = seen;
  asks = slice_get-get_or s at I inside;
  there = there;
  differ = differ;
}

-- bases from a place on that differ from the rest of a list that begins before
pub out_behind : (s x rest : List Base) (z : List Cell) (begin place at k : ℕ) → LiesFrom s begin place rest → at < length rest → FrontIsThere x (length x) z place → k ≡ at → k < length x → get_or x k I ≢ get_or rest at I → IsOut s z begin
out_behind s x rest z begin place at k lies inside there same within differ =
    let l = lies at inside in
    let before : begin ≤ place = l.0 in
    out_at s z begin (place - begin + at) (get_or x k I) l.1
    (ap (slice_get z) (let e : begin + (place - begin + at) ≡ place + k = omega arith in e) ∙ there k within)
    (λ e. differ (e ∙ sym l.2))

pub there_take : (x : List Base) (n : ℕ) (z : List Cell) (place : ℕ) → n ≤ length x → FrontIsThere x (length x) z place → FrontIsThere (take n x) (length (take n x)) z place
there_take x n z place less there k inside =
    let size : length (take n x) ≡ n = length-take-le n x less in
    there k (omega arith) ∙ ap (λ b. Some (Known b)) (sym (get_or-take n x k I (omega arith)))

-- a stretch of bases lies at its place
pub there_along : (z rest : List Cell) (x : List Base) (place : ℕ) → drop place z ≡ map Known x ++ rest → FrontIsThere x (length x) z place
there_along z rest x place is k inside =
    sym (slice_get-drop z place k) ∙ ap (λ l. slice_get l k) is ∙ see_front (map Known x) rest k (Known (get_or x k I)) (known_get x k (get_or x k I) (slice_get-get_or x k I inside))

pub stretch_within : (z cells rest : List Cell) (place : ℕ) → drop place z ≡ cells ++ rest → place < length z → place + length cells ≤ length z
stretch_within z cells rest place is inside = omega (arith, length-drop place z, ap length is, length-append cells rest)

-- where a needle begins in bases

begins_out : (s d : List Base) (z : List Cell) (place from q : ℕ) → FrontIsThere (drop from d) (length (drop from d)) z place → place ≤ q → (Agrees s d (from + (q - place)) → ⊥) → IsOut s z q
begins_out s d z place from q there past none =
    let here : ℕ = from + (q - place) in
    elim (differ_or s (drop here d)) [
      | inr fit ↦ absurd (none (λ k lt inside. sym (get_or-drop here d k I) ∙ fit k lt (omega (arith, length-drop here d))))
      | inl x ↦
          let n : ℕ = q - place + x.at in
          let inside : x.at < length (drop here d) = slice_get_within (drop here d) x.at x.seen x.there in
          let below : get_or (drop from d) n I ≡ x.seen =
          get_or-drop from d n I ∙ ap (λ i. get_or d i I) (let e : from + n ≡ here + x.at = omega arith in e) ∙ sym (get_or-drop here d x.at I) ∙ get_or_from_slice_get (drop here d) x.at x.seen I x.there in
          record {
            at = x.at;
            sought = x.sought;
            seen = x.seen;
            asks = x.asks;
            there =
                ap (slice_get z) (let e : q + x.at ≡ place + n = omega arith in e) ∙ there n (omega (arith, length-drop here d, length-drop from d)) ∙ ap (λ b. Some (Known b)) below;
            differ = x.differ;
          }
    ]

pub begins_goes : (s d : List Base) (z : List Cell) (begun : List ℕ) (place from begin next : ℕ) → FrontIsThere (drop from d) (length (drop from d)) z place → BeginsFirst s d from begin → next ≡ place + (begin - from) → GoesOn s z begun place begun next
begins_goes s d z begun place from begin next there begins is x far =
    let after : from ≤ begin = begins.after in
    out_but_later s z x begun place next far (omega arith)
    (λ q past before. begins_out s d z place from q there past (begins.least (from + (q - place)) (omega arith) (omega arith)))

pub begins_there : (s d : List Base) (z : List Cell) (place from begin first count : ℕ) → FrontIsThere (drop from d) (length (drop from d)) z place → BeginsFirst s d from begin → first ≡ place + (begin - from)
    → count ≡ length d - begin → count ≤ length s → FrontIsThere s count z first
begins_there s d z place from begin first count there begins is number less k inside =
    let after : from ≤ begin = begins.after in
    let n : ℕ = begin - from + k in
    ap (slice_get z) (let e : first + k ≡ place + n = omega arith in e) ∙ there n (omega (arith, length-drop from d))
    ∙ ap (λ b. Some (Known b)) (get_or-drop from d n I ∙ ap (λ i. get_or d i I) (let e : from + n ≡ begin + k = omega arith in e) ∙ begins.agrees k (omega arith) (omega arith))

-- a place of a needle's first bases behind which it differs from them
pub out_repeat : (s : List Base) (fronts : List ℕ) (z : List Cell) (first count at : ℕ) → FrontsTo s fronts → at < length fronts → count ≤ length s → FrontIsThere s count z first → at + get_or fronts at 0 < count → IsOut s z (first + at)
out_repeat s fronts z first count at far inside less there short =
    let front : IsFront s at (get_or fronts at 0) = far at inside in
    let same : ℕ = get_or fronts at 0 in
    out_at s z (first + at) same (get_or s (at + same) I) (omega arith)
    (ap (slice_get z) (let e : first + at + same ≡ first + (at + same) = omega arith in e) ∙ there (at + same) short)
    (front.other (omega arith))

pub fronts_take : (s : List Base) (fronts : List ℕ) (count : ℕ) → AreFronts s fronts → count ≤ length fronts → FrontsTo s (take count fronts)
fronts_take s fronts count far less at inside =
    let size : length (take count fronts) ≡ count = length-take-le count fronts less in
    subst (IsFront s at) (sym (get_or-take count fronts at 0 (omega arith))) (far.each at (omega arith))

-- what is answered for a later place

pub passes_later : (s : List Base) (z : List Cell) (from place : ℕ) (passing : Passing) → from ≤ place → AreOut s z from place → PassesSo z (Search s) place passing → PassesSo z (Search s) from passing
passes_later s z from place (To j) less out passes =
    let first = passes.1 in
    (passes.0, record { after = omega (arith, first.after); out = out_join s z from place passes.0 out first.out; sure = first.sure }, passes.2)
passes_later s z from place Fails less out passes = λ q past within. elim (cases_lt q place) [
  | inl before ↦ out q past before
  | inr later ↦ passes q later within
]
passes_later s z from place Depends less out passes =
    let first = passes.1 in
    (passes.0, record { after = omega (arith, first.after); out = out_join s z from place passes.0 out first.out; unsure = first.unsure })

pub passes_sure : (s : List Base) (z : List Cell) (from place : ℕ) → from ≤ place → AreOut s z from place → IsSure s z place → PassesSo z (Search s) from (To (place + length s))
passes_sure s z from place less out sure = (place, record { after = less; out = out; sure = sure }, refl)

pub passes_unsure : (s : List Base) (z : List Cell) (from place : ℕ) → from ≤ place → AreOut s z from place → IsUnsure s z place → PassesSo z (Search s) from Depends
passes_unsure s z from place less out unsure = (place, record { after = less; out = out; unsure = unsure })

-- closing

pub record Closed (s : List Base) (z : List Cell) (from to i : ℕ) (begun : List ℕ) : Type 0 where
  pub mid : ℕ
  pub after : from ≤ mid
  pub out : AreOut s z from mid
  pub behind : OutBut s z mid (drop i begun) to

abbrev pub ClosedTo : List Base → List Cell → List ℕ → ℕ → Type 0
ClosedTo s z begun i = (from to : ℕ) → OutBut s z from begun to → Closed s z from to i begun

pub closed_none : (s : List Base) (z : List Cell) (begun : List ℕ) → ClosedTo s z begun 0
closed_none s z begun from to far = record { mid = from; after = let e : from ≤ from = omega arith in e; out = out_none s z from; behind = far }

-- up to the open place that is next
pub record Reached (s : List Base) (z : List Cell) (from to i : ℕ) (begun : List ℕ) : Type 0 where
  pub after : from ≤ get_or begun i 0
  pub out : AreOut s z from (get_or begun i 0)
  pub behind : OutBut s z (get_or begun i 0 + 1) (drop (i + 1) begun) to

pub reached : (s : List Base) (z : List Cell) (begun : List ℕ) (i from to : ℕ) → ClosedTo s z begun i → i < length begun → OutBut s z from begun to → Reached s z from to i begun
reached s z begun i from to closed inside far =
    let k = closed from to far in
    let behind : OutBut s z k.mid (get_or begun i 0 ∷ drop (i + 1) begun) to = next_behind s z k.mid i begun to inside k.behind in
    record {
      after = omega (arith, k.after, behind.0);
      out = out_join s z from k.mid (get_or begun i 0) k.out behind.1;
      behind = behind.2;
    }

pub closed_more : (s : List Base) (z : List Cell) (begun : List ℕ) (i : ℕ) → ClosedTo s z begun i → i < length begun → IsOut s z (get_or begun i 0) → ClosedTo s z begun (i + 1)
closed_more s z begun i closed inside here from to far =
    let r = reached s z begun i from to closed inside far in
    record {
      mid = get_or begun i 0 + 1;
      after = omega (arith, r.after);
      out = out_more s z from (get_or begun i 0) r.out here;
      behind = r.behind;
    }

pub closed_all : (s : List Base) (z : List Cell) (begun : List ℕ) (i from to q : ℕ) → ClosedTo s z begun i → length begun ≤ i → OutBut s z from begun to → from ≤ q → q < to → IsOut s z q
closed_all s z begun i from to q closed past far after before =
    let k = closed from to far in
    let behind : OutBut s z k.mid [] to = subst (λ l. OutBut s z k.mid l to) (drop_past begun i past) k.behind in
    out_join s z from k.mid to k.out behind.1 q after before

-- the bases behind a place of a table's row differ from its first
pub out_tabled : (s x rest row : List Base) (fronts : List ℕ) (z : List Cell) (begin last place same count : ℕ) → LiesFrom s last place rest → row ≡ x ++ take count rest → count ≤ length rest → AreFronts row fronts
    → begin ≤ last → same ≡ get_or fronts (length x + (last - begin)) 0 → same < length x → length x + (last - begin) + same < length fronts → FrontIsThere x (length x) z place → IsOut s z begin
out_tabled s x rest row fronts z begin last place same count lies is fits far before number inside within there =
    let behind : ℕ = last - begin + same in
    let at : ℕ = length x + (last - begin) in
    let size : length row ≡ length x + count = ap length is ∙ length-append x (take count rest) ∙ ap (λ n. length x + n) (length-take-le count rest fits) in
    let short : at + same < length row = omega (arith, far.count) in
    let front : IsFront row at same = subst (IsFront row at) (sym number) (far.each at (omega arith)) in
    let part : behind < count = omega arith in
    let l = lies behind (omega arith) in
    let passed : last ≤ place = l.0 in
    let index : place - last + behind ≡ place - begin + same = omega arith in
    let later : get_or row (at + same) I ≡ get_or s (place - begin + same) I =
    ap (λ n. get_or row n I) (let e : at + same ≡ length x + behind = omega arith in e) ∙ ap (λ y. get_or y (length x + behind) I) is ∙ get_or-append-add x (take count rest) behind I
    ∙ get_or-take count rest behind I part ∙ l.2 ∙ ap (λ n. get_or s n I) index in
    let first : slice_get row same ≡ Some (get_or x same I) = ap (λ y. slice_get y same) is ∙ get_front x (take count rest) same inside ∙ slice_get-get_or x same I inside in
    let early : get_or row same I ≡ get_or x same I = get_or_from_slice_get row same (get_or x same I) I first in
    let least : place - last + behind < length s = l.1 in
    out_at s z begin (place - begin + same) (get_or x same I) (omega arith)
    (ap (slice_get z) (let e : begin + (place - begin + same) ≡ place + same = omega arith in e) ∙ there same inside)
    (λ e. front.other short (later ∙ sym e ∙ sym early))

pub ok_map : {T E : Type 0} (r : Result T E) (P Q : T → Type 0) → IfOk r P → ((v : T) → P v → Q v) → IfOk r Q
ok_map (Ok v) P Q holds so = so v holds
ok_map (Err e) P Q holds so = holds

-- the first of the bases alone were looked at
pub goes_near : (s x near : List Base) (begun begun' later : List ℕ) (place n : ℕ) → n ≤ length x → near ≡ take n x → begun' ≡ begun → GoesOnAlong s near begun' place later place → GoesOnAlong s x begun place later place
goes_near s x near begun begun' later place n less is same goes z there =
    subst (λ l. GoesOn s z l place later place) same (goes z (subst (λ l. FrontIsThere l (length l) z place) (sym is) (there_take x n z place less there)))

pub goes_both : (s x : List Base) (begun near near' later : List ℕ) (place : ℕ) → GoesOnAlong s x begun place near place → near' ≡ near → GoesOnAlong s x near' place later place → GoesOnAlong s x begun place later place
goes_both s x begun near near' later place first same last z there from far =
    last z there from (subst (λ l. OutBut s z from l place) (sym same) (first z there from far))
