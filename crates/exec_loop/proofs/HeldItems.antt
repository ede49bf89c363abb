-- Items act as they are held: on DNA of fewer than 2^63 bases, and under limits of at most 2^40.
use Rattle.std.proofs.Common.{◌≡◌, ℕ, zero, suc, ◌+◌, ◌*◌, ◌-◌, ◌^◌, ◌<◌, ◌≤◌, ◌⊎◌, inl, inr, Some, List, [], ◌∷◌, ◌++◌, length, take, drop, map, arith, refl, sym, ap, subst, ◌∙◌}
use Rattle.std.specs.Prelude.{slice_get, slice_range, slice_index, unwrap_or}
use Rattle.std.specs.Option.{option_map}
use Rattle.std.specs.List.{take-map, drop-map}
use Rattle.std.proofs.lemmas.Bool.{cases_lt}
use Rattle.std.proofs.lemmas.List.{drop-drop, length-map, length-append}
use Rattle.std.proofs.lemmas.Option.{same_Some, slice_get_past, slice_get-map}
use Rattle.fuun_base.specs.declared.letters.Base.{Base}
use Rattle.fuun_base.specs.Quote.{protect, asnat}
use Rattle.fuun_base.proofs.QuoteLemmas.{protect_four, protect-protect, protect_of-nil, length-protect_ge}
use Rattle.dna_items.specs.declared.items.PatItem.{PatItem}
use Rattle.dna_items.specs.declared.items.PatItem.TheVariants.{Base as Literal, Skip, Search, GroupStart, GroupStop}
use Rattle.dna_items.specs.declared.items.TplItem.{TplItem}
use Rattle.dna_items.specs.declared.items.TplItem.TheVariants.{Base as TplLiteral, Group, Len}
use Rattle.dna_items.specs.Balance.{start_of, stop_of, starts, stops, IsBalanced}
use Rattle.dna_items.specs.Held.{held, held_pattern_item, held_template_item, held_pattern, held_template}
use Rattle.matcher.specs.Match.{Meets, LeadThrough, IsMatch, HasNoMatch}
use Rattle.matcher.specs.Groups.{IsPartner, IsGroup, AreGroups}
use Rattle.matcher.specs.Found.{moved}
use Rattle.replacer.specs.Replacement.{text_of, put_by, replacement, texts_of, replaced}
use Rattle.replacer.specs.Weight.{quoted_at, quoted_by, quoted_bases}

-- matches

skip_held : (i j n len : ℕ) → len < 2 ^ 63 → j ≤ len → j ≡ i + held n → j ≡ i + n
unfolding held
skip_held i j n len small within e = omega arith

held_skip : (i j n len : ℕ) → len < 2 ^ 63 → j ≤ len → j ≡ i + n → j ≡ i + held n
unfolding held
held_skip i j n len small within e = omega arith

meets_held : (d : List Base) (item : PatItem) (i j : ℕ) → length d < 2 ^ 63 → Meets d (held_pattern_item item) i j → Meets d item i j
meets_held d (Literal b) i j small x = x
meets_held d (Skip n) i j small x = (skip_held i j n (length d) small x.1 x.0, x.1)
meets_held d (Search s) i j small x = x
meets_held d GroupStart i j small x = x
meets_held d GroupStop i j small x = x

held_meets : (d : List Base) (item : PatItem) (i j : ℕ) → length d < 2 ^ 63 → Meets d item i j → Meets d (held_pattern_item item) i j
held_meets d (Literal b) i j small x = x
held_meets d (Skip n) i j small x = (held_skip i j n (length d) small x.1 x.0, x.1)
held_meets d (Search s) i j small x = x
held_meets d GroupStart i j small x = x
held_meets d GroupStop i j small x = x

through_held : (d : List Base) (items : List PatItem) (i : ℕ) (places : List ℕ) → length d < 2 ^ 63 → LeadThrough d (held_pattern items) i places → LeadThrough d items i places
through_held d [] i [] small x = x
through_held d [] i (j ∷ places) small x = x
through_held d (item ∷ items) i [] small x = x
through_held d (item ∷ items) i (j ∷ places) small x = (meets_held d item i j small x.0, through_held d items j places small x.1)

held_through : (d : List Base) (items : List PatItem) (i : ℕ) (places : List ℕ) → length d < 2 ^ 63 → LeadThrough d items i places → LeadThrough d (held_pattern items) i places
held_through d [] i [] small x = x
held_through d [] i (j ∷ places) small x = x
held_through d (item ∷ items) i [] small x = x
held_through d (item ∷ items) i (j ∷ places) small x = (held_meets d item i j small x.0, held_through d items j places small x.1)

pub match_held : (d : List Base) (items : List PatItem) (places : List ℕ) → length d < 2 ^ 63 → IsMatch d (held_pattern items) places → IsMatch d items places
match_held d items [] small x = x
match_held d items (i ∷ places) small x = (x.0, through_held d items i places small x.1)

pub held_match : (d : List Base) (items : List PatItem) (places : List ℕ) → length d < 2 ^ 63 → IsMatch d items places → IsMatch d (held_pattern items) places
held_match d items [] small x = x
held_match d items (i ∷ places) small x = (x.0, held_through d items i places small x.1)

pub none_held : (d : List Base) (items : List PatItem) → length d < 2 ^ 63 → HasNoMatch d (held_pattern items) → HasNoMatch d items
none_held d items small none places is = none places (held_match d items places small is)

-- groups

start_of-held : (item : PatItem) → start_of (held_pattern_item item) ≡ start_of item
start_of-held (Literal b) = refl
start_of-held (Skip n) = refl
start_of-held (Search s) = refl
start_of-held GroupStart = refl
start_of-held GroupStop = refl

stop_of-held : (item : PatItem) → stop_of (held_pattern_item item) ≡ stop_of item
stop_of-held (Literal b) = refl
stop_of-held (Skip n) = refl
stop_of-held (Search s) = refl
stop_of-held GroupStart = refl
stop_of-held GroupStop = refl

starts-held : (items : List PatItem) → starts (held_pattern items) ≡ starts items
starts-held [] = refl
starts-held (item ∷ items) = omega (arith, start_of-held item, starts-held items)

stops-held : (items : List PatItem) → stops (held_pattern items) ≡ stops items
stops-held [] = refl
stops-held (item ∷ items) = omega (arith, stop_of-held item, stops-held items)

take-held : (n : ℕ) (items : List PatItem) → take n (held_pattern items) ≡ held_pattern (take n items)
take-held n items = take-map held_pattern_item n items

range-held : (items : List PatItem) (a b : ℕ) → slice_range (held_pattern items) a b ≡ held_pattern (slice_range items a b)
range-held items a b = ap (take (b - a)) (drop-map held_pattern_item a items) ∙ take-map held_pattern_item (b - a) (drop a items)

pub balanced_held : (items : List PatItem) → IsBalanced (held_pattern items) → IsBalanced items
balanced_held items x = record {
  even = sym (starts-held items) ∙ x.even ∙ stops-held items;
  fronts = λ n.
      let h : stops (held_pattern (take n items)) ≤ starts (held_pattern (take n items)) = subst (λ l. stops l ≤ starts l) (take-held n items) (x.fronts n) in
      omega (arith, h, starts-held (take n items), stops-held (take n items));
}

item_stops : (item : PatItem) → held_pattern_item item ≡ GroupStop → item ≡ GroupStop
item_stops (Literal b) e = cc
item_stops (Skip n) e = cc
item_stops (Search s) e = cc
item_stops GroupStart e = cc
item_stops GroupStop e = refl

item_starts : (item : PatItem) → held_pattern_item item ≡ GroupStart → item ≡ GroupStart
item_starts (Literal b) e = cc
item_starts (Skip n) e = cc
item_starts (Search s) e = cc
item_starts GroupStart e = refl
item_starts GroupStop e = cc

stop_at : (items : List PatItem) (n : ℕ) → slice_get (held_pattern items) n ≡ Some GroupStop → slice_get items n ≡ Some GroupStop
stop_at [] n e = e
stop_at (item ∷ items) zero e = ap (λ x. Some x) (item_stops item (same_Some (held_pattern_item item) GroupStop e))
stop_at (item ∷ items) (suc n) e = stop_at items n e

start_at : (items : List PatItem) (n : ℕ) → slice_get (held_pattern items) n ≡ Some GroupStart → slice_get items n ≡ Some GroupStart
start_at [] n e = e
start_at (item ∷ items) zero e = ap (λ x. Some x) (item_starts item (same_Some (held_pattern_item item) GroupStart e))
start_at (item ∷ items) (suc n) e = start_at items n e

stop_is_held : (items : List PatItem) (n : ℕ) → slice_get items n ≡ Some GroupStop → slice_get (held_pattern items) n ≡ Some GroupStop
stop_is_held items n e = slice_get-map held_pattern_item items n ∙ ap (option_map held_pattern_item) e

partner_held : (items : List PatItem) (start stop : ℕ) → IsPartner (held_pattern items) start stop → IsPartner items start stop
partner_held items start stop x = record {
  before = x.before;
  starts = start_at items start x.starts;
  ends = stop_at items stop x.ends;
  between = balanced_held (slice_range items (start + 1) stop) (subst IsBalanced (range-held items (start + 1) stop) x.between);
}

group_held : (items : List PatItem) (places : List ℕ) (groups : List (ℕ × ℕ)) (stop : ℕ) → IsGroup (held_pattern items) places groups stop → IsGroup items places groups stop
group_held items places groups stop x =
    let before : stops (take stop (held_pattern items)) ≡ stops (take stop items) = ap stops (take-held stop items) ∙ stops-held (take stop items) in
    (x.0, partner_held items x.0 stop x.1, subst (λ n. slice_get groups n ≡ Some (slice_index places x.0, slice_index places stop)) before x.2)

pub groups_held : (items : List PatItem) (places : List ℕ) (groups : List (ℕ × ℕ)) → AreGroups (held_pattern items) places groups → AreGroups items places groups
groups_held items places groups x = record {
  number = x.number ∙ stops-held items;
  each = λ stop ends. group_held items places groups stop (x.each stop (stop_is_held items stop ends));
}

-- levels

-- a number doubled so often
doubled : ℕ → ℕ → ℕ
doubled zero n = n
doubled (suc k) n = doubled k (2 * n)

doubled_more : (k m n : ℕ) → m ≤ n → doubled k m ≤ doubled k n
unfolding doubled
doubled_more zero m n le = le
doubled_more (suc k) m n le = doubled_more k (2 * m) (2 * n) (omega arith)

-- four quotings make at least twice as many bases
quoted_by_fours : (k : ℕ) (d : List Base) → doubled k (length d) ≤ length (protect (4 * k) d)
unfolding doubled
quoted_by_fours zero d = let none : 4 * 0 ≡ 0 = omega arith in omega (arith, length-protect_ge 0 d)
quoted_by_fours (suc k) d =
    let more : 4 * k + 4 ≡ 4 * suc k = omega arith in
    let same : protect (4 * k) (protect 4 d) ≡ protect (4 * suc k) d = protect-protect (4 * k) 4 d ∙ ap (λ n. protect n d) more in
    omega (arith, ap length same, quoted_by_fours k (protect 4 d), doubled_more k (2 * length d) (length (protect 4 d)) (protect_four d))

doubled_41 : doubled 41 1 ≡ 2 ^ 41
unfolding doubled
doubled_41 = refl

pub long_by_level : (level : ℕ) (d : List Base) → 164 ≤ level → 0 < length d → 2 ^ 40 < length (protect level d)
long_by_level level d high some =
    let whole : level - 164 + 164 ≡ level = omega arith in
    let same : protect (level - 164) (protect 164 d) ≡ protect level d = protect-protect (level - 164) 164 d ∙ ap (λ n. protect n d) whole in
    omega (arith, ap length same, length-protect_ge (level - 164) (protect 164 d), quoted_by_fours 41 d, doubled_more 41 1 (length d) some, doubled_41)

none_of_length : (d : List Base) → length d ≡ 0 → d ≡ []
none_of_length [] e = refl
none_of_length (b ∷ d) e = absurd (omega arith)

-- two texts are the same, or both are longer than any limit
abbrev pub IsAlike : List Base → List Base → Type 0
IsAlike a b = (a ≡ b) ⊎ ((2 ^ 40 < length a) × (2 ^ 40 < length b))

alike_append : (a b c d : List Base) → IsAlike a b → IsAlike c d → IsAlike (a ++ c) (b ++ d)
alike_append a b c d (inl x) (inl y) = inl (ap (λ l. l ++ c) x ∙ ap (λ l. b ++ l) y)
alike_append a b c d (inl x) (inr y) =
    let long_c : 2 ^ 40 < length c = y.0 in let long_d : 2 ^ 40 < length d = y.1 in
    inr (omega (arith, length-append a c), omega (arith, length-append b d))
alike_append a b c d (inr x) y =
    let long_a : 2 ^ 40 < length a = x.0 in let long_b : 2 ^ 40 < length b = x.1 in
    inr (omega (arith, length-append a c), omega (arith, length-append b d))

held_small : (n : ℕ) → n ≤ 2 ^ 63 → held n ≡ n
unfolding held
held_small n small = omega arith

held_great : (n : ℕ) → 2 ^ 63 ≤ n → held n ≡ 2 ^ 63
unfolding held
held_great n great = omega arith

level_alike : (level : ℕ) (d : List Base) → IsAlike (protect (held level) d) (protect level d)
level_alike level d =
    elim (cases_lt (2 ^ 63) level) [
      | inr small ↦ inl (ap (λ n. protect n d) (held_small level small))
      | inl great ↦ elim (cases_lt 0 (length d)) [
        | inl some ↦
            let is : held level ≡ 2 ^ 63 = held_great level (omega arith) in
            inr (long_by_level (held level) d (omega arith) some, long_by_level level d (omega arith) some)
        | inr none ↦
            let empty : d ≡ [] = none_of_length d (omega arith) in
            inl (subst (λ e. protect (held level) e ≡ protect level e) (sym empty) (protect_of-nil (held level) ∙ sym (protect_of-nil level)))
      ]
    ]

text_held : (texts : List (List Base)) (n : ℕ) → length texts < 2 ^ 63 → text_of texts (held n) ≡ text_of texts n
text_held texts n few =
    elim (cases_lt (2 ^ 63) n) [
      | inr small ↦ ap (text_of texts) (held_small n small)
      | inl great ↦
          let is : held n ≡ 2 ^ 63 = held_great n (omega arith) in
          let here : length texts ≤ held n = omega arith in
          let there : length texts ≤ n = omega arith in
          ap (λ o. unwrap_or o []) (slice_get_past texts (held n) here) ∙ sym (ap (λ o. unwrap_or o []) (slice_get_past texts n there))
    ]

put_alike : (texts : List (List Base)) (item : TplItem) → length texts < 2 ^ 63 → IsAlike (put_by texts (held_template_item item)) (put_by texts item)
put_alike texts (TplLiteral b) few = inl refl
put_alike texts (Group n level) few =
    subst (λ e. IsAlike (protect (held level) e) (protect level (text_of texts n))) (sym (text_held texts n few)) (level_alike level (text_of texts n))
put_alike texts (Len n) few = inl (ap (λ e. asnat (length e)) (text_held texts n few))

replacement_alike : (texts : List (List Base)) (items : List TplItem) → length texts < 2 ^ 63 → IsAlike (replacement texts (held_template items)) (replacement texts items)
replacement_alike texts [] few = inl refl
replacement_alike texts (item ∷ items) few =
    alike_append (put_by texts (held_template_item item)) (put_by texts item) (replacement texts (held_template items)) (replacement texts items) (put_alike texts item few) (replacement_alike texts items few)

pub replaced_alike : (d : List Base) (items : List TplItem) (ranges : List (ℕ × ℕ)) (stop : ℕ) → length ranges < 2 ^ 63 → IsAlike (replaced d (held_template items) ranges stop) (replaced d items ranges stop)
replaced_alike d items ranges stop few =
    let texts : List (List Base) = texts_of d ranges in
    let number : length texts ≡ length ranges = length-map ranges (λ (range : ℕ × ℕ). slice_range d range.0 range.1) in
    alike_append (replacement texts (held_template items)) (replacement texts items) (drop stop d) (drop stop d) (replacement_alike texts items (omega arith)) (inl refl)

-- what is quoted

quoted_above : (level : ℕ) (text : List Base) → 0 < level → quoted_at level text ≡ length (protect level text)
quoted_above zero text above = absurd (omega arith)
quoted_above (suc level) text above = refl

level_quoted : (level : ℕ) (text : List Base) → length (protect (held level) text) ≤ 2 ^ 40 → quoted_at (held level) text ≡ quoted_at level text
level_quoted level text short =
    elim (cases_lt (2 ^ 63) level) [
      | inr small ↦ ap (λ n. quoted_at n text) (held_small level small)
      | inl great ↦
          let is : held level ≡ 2 ^ 63 = held_great level (omega arith) in
          elim (cases_lt 0 (length text)) [
            | inl some ↦ let long = long_by_level (held level) text (omega arith) some in absurd (omega arith)
            | inr none ↦
                let empty : text ≡ [] = none_of_length text (omega arith) in
                let nothing : protect (held level) text ≡ protect level text =
                subst (λ e. protect (held level) e ≡ protect level e) (sym empty) (protect_of-nil (held level) ∙ sym (protect_of-nil level)) in
                quoted_above (held level) text (omega arith) ∙ ap length nothing ∙ sym (quoted_above level text (omega arith))
          ]
    ]

item_quoted : (texts : List (List Base)) (item : TplItem) → length texts < 2 ^ 63 → length (put_by texts (held_template_item item)) ≤ 2 ^ 40 → quoted_by texts (held_template_item item) ≡ quoted_by texts item
item_quoted texts (TplLiteral b) few short = refl
item_quoted texts (Group n level) few short =
    let same : text_of texts (held n) ≡ text_of texts n = text_held texts n few in
    ap (quoted_at (held level)) same ∙ level_quoted level (text_of texts n) (subst (λ e. length (protect (held level) e) ≤ 2 ^ 40) same short)
item_quoted texts (Len n) few short = refl

-- a replacement that is short quotes the same with the numbers as they were read
pub quoted_held : (texts : List (List Base)) (items : List TplItem) → length texts < 2 ^ 63 → length (replacement texts (held_template items)) ≤ 2 ^ 40 → quoted_bases texts (held_template items) ≡ quoted_bases texts items
quoted_held texts [] few short = refl
quoted_held texts (item ∷ items) few short =
    let parts = length-append (put_by texts (held_template_item item)) (replacement texts (held_template items)) in
    omega (arith, item_quoted texts item few (omega (arith, parts)), quoted_held texts items few (omega (arith, parts)))

-- places that are counted from further back

range_moved : (d : List Base) (place lo hi : ℕ) → slice_range d (place + lo) (place + hi) ≡ slice_range (drop place d) lo hi
range_moved d place lo hi =
    let count : place + hi - (place + lo) ≡ hi - lo = omega arith in
    ap (λ n. take n (drop (place + lo) d)) count ∙ ap (take (hi - lo)) (sym (drop-drop lo place d))

pub texts_moved : (d : List Base) (place : ℕ) (ranges : List (ℕ × ℕ)) → texts_of d (map (moved place) ranges) ≡ texts_of (drop place d) ranges
texts_moved d place [] = refl
texts_moved d place (range ∷ ranges) =
    ap (λ x. x ∷ texts_of d (map (moved place) ranges)) (range_moved d place range.0 range.1)
    ∙ ap (λ l. slice_range (drop place d) range.0 range.1 ∷ l) (texts_moved d place ranges)

pub replaced_moved : (d : List Base) (place : ℕ) (items : List TplItem) (ranges : List (ℕ × ℕ)) (stop : ℕ) → replaced d items (map (moved place) ranges) (place + stop) ≡ replaced (drop place d) items ranges stop
replaced_moved d place items ranges stop =
    ap (λ texts. replacement texts items ++ drop (place + stop) d) (texts_moved d place ranges)
    ∙ ap (λ l. replacement (texts_of (drop place d) ranges) items ++ l) (sym (drop-drop stop place d))
