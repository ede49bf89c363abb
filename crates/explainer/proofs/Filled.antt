-- What holds of cells holds of what they stand for in each target.
use Rattle.std.proofs.Common.{◌≡◌, ℕ, zero, suc, ◌+◌, ◌-◌, ◌<◌, ◌≤◌, inl, inr, Bool, true, false, not, Some, List, [], ◌∷◌, ◌++◌, length, get_or, take, drop, map, arith, refl, sym, ap, subst, ◌∙◌}
use Rattle.std.specs.Prelude.{◌||◌, slice_get, slice_range}
use Rattle.std.specs.Option.{option_map}
use Rattle.std.specs.List.{flat_map}
use Rattle.std.proofs.lemmas.List.{length-map, map-append, drop-map, take-map, drop_more, length-drop, take_all}
use Rattle.std.proofs.lemmas.Option.{slice_get-map, slice_get_within, none-some, same_Some, slice_get_past}
use Rattle.fuun_base.specs.declared.letters.Base.{Base}
use Rattle.fuun_base.specs.declared.letters.Base.TheVariants.{I}
use Rattle.fuun_base.specs.Occurrence.{Stands, IsFirst}
use Rattle.fuun_base.specs.Quote.{protect, asnat}
use Rattle.dna_items.specs.declared.items.PatItem.{PatItem}
use Rattle.dna_items.specs.declared.items.PatItem.TheVariants.{Base as Literal, Skip, Search, GroupStart, GroupStop}
use Rattle.dna_items.specs.declared.items.TplItem.{TplItem}
use Rattle.dna_items.specs.declared.items.TplItem.TheVariants.{Base as TplLiteral, Group, Len}
use Rattle.matcher.specs.Match.{Meets, LeadThrough, HasNoMatch}
use Rattle.matcher.specs.Step.{MeetsNowhere, LeadNowhere}
use Rattle.matcher.proofs.Places.{meets_same}
use Rattle.replacer.specs.Replacement as flat
use Rattle.sym_strand.specs.declared.cells.Cell.{Cell}
use Rattle.sym_strand.specs.declared.cells.Cell.TheVariants.{Known, Target}
use Rattle.sym_strand.specs.Cells.{places_from, start_cells, all_known, known_front}
use Rattle.explainer.specs.Filling.{base_in, fill}
use Rattle.explainer.specs.Windows.{IsSure, IsOut}
use Rattle.explainer.specs.Leading.{Leads, Fails, LeadAlong, FailAlong}
use Rattle.explainer.specs.Replacement.{text_of, texts_of, quotes_target, depends_on_target, put_by, replaced}

-- the known front

pub front_most : (z : List Cell) → length (known_front z) ≤ length z
front_most [] = omega arith
front_most (Known b ∷ z) = omega (arith, front_most z)
front_most (Target place ∷ z) = omega arith

pub fill_front : (d : List Base) (z : List Cell) → fill d z ≡ known_front z ++ fill d (drop (length (known_front z)) z)
fill_front d [] = refl
fill_front d (Known b ∷ z) = ap (λ l. b ∷ l) (fill_front d z)
fill_front d (Target place ∷ z) = refl

pub fill_known : (d bases : List Base) → fill d (map Known bases) ≡ bases
fill_known d [] = refl
fill_known d (b ∷ bases) = ap (λ l. b ∷ l) (fill_known d bases)

pub fill_all_known : (d : List Base) (z : List Cell) → all_known z ≡ true → fill d z ≡ known_front z
fill_all_known d [] known = refl
fill_all_known d (Known b ∷ z) known = ap (λ l. b ∷ l) (fill_all_known d z known)
fill_all_known d (Target place ∷ z) known = cc

pub front_of_all_known : (z : List Cell) → all_known z ≡ true → length (known_front z) ≡ length z
front_of_all_known [] known = refl
front_of_all_known (Known b ∷ z) known = ap suc (front_of_all_known z known)
front_of_all_known (Target place ∷ z) known = cc

pub front_of_some_target : (z : List Cell) → all_known z ≡ false → length (known_front z) < length z
front_of_some_target [] known = cc
front_of_some_target (Known b ∷ z) known = omega (arith, front_of_some_target z known)
front_of_some_target (Target place ∷ z) known = omega arith

-- the start

pub fill_places : (d : List Base) (lo n : ℕ) → lo + n ≤ length d → fill d (places_from lo n) ≡ take n (drop lo d)
unfolding places_from
fill_places d lo zero within = refl
fill_places d lo (suc n) within =
    let inside : lo < length d = omega arith in
    ap (λ l. get_or d lo I ∷ l) (fill_places d (lo + 1) n (omega arith)) ∙ ap (take (suc n)) (sym (drop_more d lo I inside))

pub fill_start : (prefix d : List Base) (target : ℕ) → length d ≡ target → fill d (start_cells prefix target) ≡ prefix ++ d
fill_start prefix d target is =
    map-append (base_in d) (map Known prefix) (places_from 0 target)
    ∙ ap (λ l. l ++ fill d (places_from 0 target)) (fill_known d prefix)
    ∙ ap (λ l. prefix ++ l) (fill_places d 0 target (omega arith) ∙ take_whole d target is) where
      take_whole : (d : List Base) (n : ℕ) → length d ≡ n → take n d ≡ d
      take_whole d n e = take_all n d (omega arith)

-- windows

pub get_filled : (d : List Base) (z : List Cell) (k : ℕ) (c : Cell) → slice_get z k ≡ Some c → slice_get (fill d z) k ≡ Some (base_in d c)
get_filled d z k c is = slice_get-map (base_in d) z k ∙ ap (option_map (base_in d)) is

get_dropped : {A : Type 0} (xs : List A) (p k : ℕ) → slice_get (drop p xs) k ≡ slice_get xs (p + k)
get_dropped xs zero k = ap (slice_get xs) (let e : k ≡ 0 + k = omega arith in e)
get_dropped [] (suc p) k = refl
get_dropped (x ∷ xs) (suc p) k = get_dropped xs p k ∙ past x xs p k where
  past : {A : Type 0} (x : A) (xs : List A) (p k : ℕ) → slice_get xs (p + k) ≡ slice_get (x ∷ xs) (suc p + k)
  past x xs p k = ap (slice_get (x ∷ xs)) (let e : suc (p + k) ≡ suc p + k = omega arith in e)

get_taken : {A : Type 0} (xs : List A) (n k : ℕ) → k < n → slice_get (take n xs) k ≡ slice_get xs k
get_taken xs zero k inside = absurd (omega arith)
get_taken [] (suc n) k inside = refl
get_taken (x ∷ xs) (suc n) zero inside = refl
get_taken (x ∷ xs) (suc n) (suc k) inside = get_taken xs n k (omega arith)

-- a list that has these bases at its front, one by one
front_by_places : (s ys : List Base) → length s ≤ length ys → ((k : ℕ) (b : Base) → slice_get s k ≡ Some b → slice_get ys k ≡ Some b) → take (length s) ys ≡ s
front_by_places [] ys within same = refl
front_by_places (b ∷ s) [] within same = absurd (omega arith)
front_by_places (b ∷ s) (c ∷ ys) within same =
    let first : c ≡ b = same_Some c b (same 0 b refl) in
    ap (λ x. x ∷ take (length s) ys) first ∙ ap (λ l. b ∷ l) (front_by_places s ys (omega arith) (λ k x is. same (suc k) x is))

sure_stands : (d s : List Base) (z : List Cell) (place : ℕ) → IsSure s z place → Stands s (fill d z) place
sure_stands d s z place sure =
    let count : place + length s - place ≡ length s = omega arith in
    record {
      within = omega (arith, sure.within, length-map z (base_in d));
      there =
          ap (λ n. take n (drop place (fill d z))) count
          ∙ front_by_places s (drop place (fill d z)) (omega (arith, sure.within, length-map z (base_in d), length-drop place (fill d z)))
          (λ k b is. get_dropped (fill d z) place k ∙ get_filled d z (place + k) (Known b) (sure.there k b is));
    }

out_stands : (d s : List Base) (z : List Cell) (place : ℕ) → IsOut s z place → Stands s (fill d z) place → ⊥
out_stands d s z place out stands =
    let inside : out.at < length s = slice_get_within s out.at out.sought out.asks in
    let here : slice_get (fill d z) (place + out.at) ≡ Some out.seen = get_filled d z (place + out.at) (Known out.seen) out.there in
    let there : slice_get (fill d z) (place + out.at) ≡ Some out.sought =
    sym (get_dropped (fill d z) place out.at)
    ∙ sym (get_taken (drop place (fill d z)) (place + length s - place) out.at (omega arith))
    ∙ ap (λ l. slice_get l out.at) stands.there ∙ out.asks in
    out.differ (same_Some out.seen out.sought (sym here ∙ there))

-- items

pub leads_filled : (d : List Base) (z : List Cell) (item : PatItem) (i j : ℕ) → Leads z item i j → Meets (fill d z) item i j
leads_filled d z (Literal b) i j x = (get_filled d z i (Known b) x.0, x.1)
leads_filled d z (Skip n) i j x = (x.0, let within : j ≤ length z = x.1 in omega (arith, length-map z (base_in d)))
leads_filled d z (Search s) i j x = (
  x.0,
  record {
    after = x.1.after;
    stands = sure_stands d s z x.0 x.1.sure;
    least = λ earlier after before. out_stands d s z earlier (x.1.out earlier after before);
  },
  x.2,
)
leads_filled d z GroupStart i j x = x
leads_filled d z GroupStop i j x = x

pub fails_filled : (d : List Base) (z : List Cell) (item : PatItem) (i : ℕ) → Fails z item i → MeetsNowhere (fill d z) item i
fails_filled d z (Literal b) i (inl past) j meets =
    none-some b (sym (slice_get_past (fill d z) i (omega (arith, length-map z (base_in d)))) ∙ meets.0)
fails_filled d z (Literal b) i (inr other) j meets =
    other.2 (same_Some other.0 b (sym (get_filled d z i (Known other.0) other.1) ∙ meets.0))
fails_filled d z (Skip n) i past j meets =
    let at : j ≡ i + n = meets.0 in let within : j ≤ length (fill d z) = meets.1 in omega (arith, length-map z (base_in d))
fails_filled d z (Search s) i out j meets =
    let first : IsFirst s (fill d z) i meets.0 = meets.1 in
    out_stands d s z meets.0 (out meets.0 first.after (omega (arith, first.stands.within, length-map z (base_in d)))) first.stands
fails_filled d z GroupStart i fails j meets = fails
fails_filled d z GroupStop i fails j meets = fails

pub along_filled : (d : List Base) (z : List Cell) (items : List PatItem) (i : ℕ) (places : List ℕ) → LeadAlong z items i places → LeadThrough (fill d z) items i places
along_filled d z [] i [] x = x
along_filled d z [] i (j ∷ places) x = x
along_filled d z (item ∷ items) i [] x = x
along_filled d z (item ∷ items) i (j ∷ places) x = (leads_filled d z item i j x.0, along_filled d z items j places x.1)

pub fail_filled : (d : List Base) (z : List Cell) (items : List PatItem) (i : ℕ) → FailAlong z items i → LeadNowhere (fill d z) items i
fail_filled d z [] i x places through = x
fail_filled d z (item ∷ items) i x [] through = through
fail_filled d z (item ∷ items) i (inl fails) (k ∷ places) through = fails_filled d z item i fails k through.0
fail_filled d z (item ∷ items) i (inr on) (k ∷ places) through =
    fail_filled d z items on.0 on.2 places
    (subst (λ n. LeadThrough (fill d z) items n places) (meets_same (fill d z) item i k on.0 through.0 (leads_filled d z item i on.0 on.1)) through.1)

pub no_match_filled : (d : List Base) (z : List Cell) (items : List PatItem) → FailAlong z items 0 → HasNoMatch (fill d z) items
no_match_filled d z items fails [] match = match
no_match_filled d z items fails (i ∷ places) match = fail_filled d z items 0 fails places (subst (λ n. LeadThrough (fill d z) items n places) match.0 match.1)

-- replacements

pub range_filled : (d : List Base) (z : List Cell) (lo hi : ℕ) → slice_range (fill d z) lo hi ≡ fill d (slice_range z lo hi)
range_filled d z lo hi = ap (take (hi - lo)) (drop-map (base_in d) lo z) ∙ take-map (base_in d) (hi - lo) (drop lo z)

pub texts_filled : (d : List Base) (z : List Cell) (ranges : List (ℕ × ℕ)) → flat.texts_of (fill d z) ranges ≡ map (fill d) (texts_of z ranges)
texts_filled d z [] = refl
texts_filled d z (range ∷ ranges) =
    ap (λ l. l ∷ flat.texts_of (fill d z) ranges) (range_filled d z range.0 range.1)
    ∙ ap (λ l. fill d (slice_range z range.0 range.1) ∷ l) (texts_filled d z ranges)

pub text_filled : (d : List Base) (texts : List (List Cell)) (n : ℕ) → flat.text_of (map (fill d) texts) n ≡ fill d (text_of texts n)
text_filled d [] n = refl
text_filled d (text ∷ texts) zero = refl
text_filled d (text ∷ texts) (suc n) = text_filled d texts n

pub put_filled : (d : List Base) (texts : List (List Cell)) (item : TplItem) → quotes_target texts item ≡ false → fill d (put_by texts item) ≡ flat.put_by (map (fill d) texts) item
unfolding protect
put_filled d texts (TplLiteral b) known = refl
put_filled d texts (Group n zero) known = sym (text_filled d texts n)
put_filled d texts (Group n (suc level)) known =
    fill_known d (protect (suc level) (known_front (text_of texts n)))
    ∙ ap (protect (suc level)) (sym (fill_all_known d (text_of texts n) (known_text (all_known (text_of texts n)) known)) ∙ sym (text_filled d texts n)) where
      known_text : (b : Bool) → not b ≡ false → b ≡ true
      known_text true e = refl
      known_text false e = cc
put_filled d texts (Len n) known =
    fill_known d (asnat (length (text_of texts n)))
    ∙ ap asnat (sym (length-map (text_of texts n) (base_in d)) ∙ ap length (sym (text_filled d texts n)))

any_first : (b c : Bool) → (b || c) ≡ false → (b ≡ false) × (c ≡ false)
any_first false c e = (refl, e)
any_first true c e = cc

puts_filled : (d : List Base) (texts : List (List Cell)) (items : List TplItem) → depends_on_target texts items ≡ false
    → fill d (flat_map (put_by texts) items) ≡ flat.replacement (map (fill d) texts) items
puts_filled d texts [] known = refl
puts_filled d texts (item ∷ items) known =
    let parts = any_first (quotes_target texts item) (depends_on_target texts items) known in
    map-append (base_in d) (put_by texts item) (flat_map (put_by texts) items)
    ∙ ap (λ l. l ++ fill d (flat_map (put_by texts) items)) (put_filled d texts item parts.0)
    ∙ ap (λ l. flat.put_by (map (fill d) texts) item ++ l) (puts_filled d texts items parts.1)

pub replaced_filled : (d : List Base) (z : List Cell) (items : List TplItem) (ranges : List (ℕ × ℕ)) (stop : ℕ) → depends_on_target (texts_of z ranges) items ≡ false
    → fill d (replaced z items ranges stop) ≡ flat.replaced (fill d z) items ranges stop
replaced_filled d z items ranges stop known =
    map-append (base_in d) (flat_map (put_by (texts_of z ranges)) items) (drop stop z)
    ∙ ap (λ l. l ++ fill d (drop stop z)) (puts_filled d (texts_of z ranges) items known ∙ ap (λ t. flat.replacement t items) (sym (texts_filled d z ranges)))
    ∙ ap (λ l. flat.replacement (flat.texts_of (fill d z) ranges) items ++ l) (sym (drop-map (base_in d) stop z))
