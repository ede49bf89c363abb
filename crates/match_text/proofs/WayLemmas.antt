-- The parts of a pattern, and their lines.
use Rattle.std.proofs.Common.{◌≡◌, ℕ, zero, suc, ◌+◌, ◌-◌, ◌<◌, ◌≤◌, Bool, true, false, if◌then◌else◌, List, [], ◌∷◌, ◌++◌, length, take, drop, get_or, map, arith, refl, ap, sym, ◌∙◌, subst, append_assoc, append-nil, length-drop, zero-add, add-zero, take-append-drop, drop-cons}
use Rattle.std.specs.Prelude.{Option, Result, codes, nat_lt}
use Rattle.std.specs.List.{AllPass, list_all}
use Rattle.std.proofs.lemmas.List.Sums.{AllPass-from_list_all}
use Rattle.dna_items.specs.declared.items.PatItem.{PatItem}
use Rattle.std.proofs.lemmas.List.{drop-drop, drop_all, length-map, length-take-le, map-append}
use Rattle.std.proofs.lemmas.Grind.{take_at_read}
use Rattle.std.proofs.lemmas.Bool.{le-ltb, lt-ltb}
use Rattle.fuun_io.specs.Written.{appended, Puts, PutsFront}
use Rattle.fuun_io.proofs.WrittenLemmas.{appended-appended, appended-nil, PutsFront-behind, PutsFront-longer}
use Rattle.listing.proofs.PutLemmas.{puts_behind}
use Rattle.matcher.specs.Match.{last_place}
use Rattle.match_text.specs.Way.{before_parts, is_base, is_stretch, parts, way, part_line, group_line, group_lines}

-- an item that is no base, and what stands before one
plain_part : (item : PatItem) (rest : List (List PatItem)) → is_base item ≡ false → before_parts item rest ≡ (item ∷ []) ∷ rest
plain_part item [] plain = refl
plain_part item (part ∷ rest) plain = rw plain refl

same_both : {A : Type 0} (b : Bool) (x : A) → (if b then x else x) ≡ x
same_both true x = refl
same_both false x = refl

before_plain : (x : PatItem) (part : List PatItem) (rest : List (List PatItem)) → is_stretch part ≡ false → before_parts x (part ∷ rest) ≡ (x ∷ []) ∷ part ∷ rest
before_plain x part rest plain = rw plain (same_both (is_base x) ((x ∷ []) ∷ part ∷ rest))

before_base : (x : PatItem) (part : List PatItem) (rest : List (List PatItem)) → is_base x ≡ true → is_stretch part ≡ true → before_parts x (part ∷ rest) ≡ (x ∷ part) ∷ rest
before_base x part rest base stretch = rw base (rw stretch refl)

-- the first part is one item where that is no base
pub plain_first : (items : List PatItem) → 0 < length items → is_stretch items ≡ false → parts items ≡ take 1 items ∷ parts (drop 1 items)
plain_first [] inside plain = absurd (omega (arith, inside))
plain_first (x ∷ items) inside plain = plain_part x (parts items) plain

-- and else the stretch of all bases that the items begin with
stretch_first : (items : List PatItem) (n : ℕ) → suc n ≤ length items → AllPass is_base (take (suc n) items) → is_stretch (drop (suc n) items) ≡ false
    → parts items ≡ take (suc n) items ∷ parts (drop (suc n) items)
stretch_first [] n within all longest = absurd (omega (arith, within))
stretch_first (x ∷ []) zero within all longest = refl
stretch_first (x ∷ []) (suc n) within all longest = absurd (omega (arith, within))
stretch_first (x ∷ y ∷ items) zero within all longest =
    ap (before_parts x) (plain_part y (parts items) longest) ∙ before_plain x (y ∷ []) (parts items) longest
    ∙ ap (λ rest. (x ∷ []) ∷ rest) (sym (plain_part y (parts items) longest))
stretch_first (x ∷ y ∷ items) (suc n) within all longest =
    let rest : parts (y ∷ items) ≡ (y ∷ take n items) ∷ parts (drop n items) =
    stretch_first (y ∷ items) n (omega (arith, within)) (λ k d lt. all (suc k) d (omega (arith, lt))) longest in
    ap (before_parts x) rest ∙ before_base x (y ∷ take n items) (parts (drop n items)) (all 0 x (omega arith)) (all 1 x (omega arith))

pub bases_first : (items : List PatItem) (n : ℕ) → 0 < n → n ≤ length items → list_all is_base (take n items) ≡ true → is_stretch (drop n items) ≡ false
    → parts items ≡ take n items ∷ parts (drop n items)
bases_first items zero some within bases longest = absurd (omega (arith, some))
bases_first items (suc n) some within bases longest =
    stretch_first items n within (AllPass-from_list_all is_base (take (suc n) items) bases) longest

-- what was put of the lines of parts, before the next item
pub record Written (items : List PatItem) (places : List ℕ) (next at : ℕ) (old now : Option (List ℕ)) : Type 0 where
  pub behind : next ≤ length items
  pub led : next ≤ length places
  pub done : List ℕ
  pub put : now ≡ appended old done
  pub left : way (parts items) 0 places ≡ done ++ way (parts (drop next items)) at (drop next places)

pub written_begins : (items : List PatItem) (places : List ℕ) (old : Option (List ℕ)) → Written items places 0 0 old old
written_begins items places old = record {
  behind = omega arith;
  led = omega arith;
  done = [];
  put = sym (appended-nil old);
  left = refl;
}

-- the lines from a part on
way_step : (items : List PatItem) (at n : ℕ) (places : List ℕ) → parts items ≡ take n items ∷ parts (drop n items)
    → way (parts items) at places ≡ part_line (take n items) at places
    ++ (if nat_lt (length places) (length (take n items)) then codes "no match\n" else way (parts (drop n items)) (last_place (at ∷ take (length (take n items)) places)) (drop (length (take n items)) places))
way_step items at n places first = ap (λ p. way p at places) first

-- a part led on
pub written_more : (items : List PatItem) (places : List ℕ) (next at n : ℕ) (old mid now : Option (List ℕ)) → Written items places next at old mid
    → n ≤ length items - next → n ≤ length places - next → parts (drop next items) ≡ take n (drop next items) ∷ parts (drop n (drop next items))
    → now ≡ appended mid (part_line (take n (drop next items)) at (drop next places))
    → Written items places (next + n) (last_place (at ∷ take n (drop next places))) old now
written_more items places next at n old mid now w within led first put =
    let part = take n (drop next items) in
    let line = part_line part at (drop next places) in
    let long : length part ≡ n = length-take-le n (drop next items) (omega (arith, within, length-drop next items)) in
    let enough : nat_lt (length (drop next places)) (length part) ≡ false = le-ltb (length (drop next places)) (length part) (omega (arith, led, long, length-drop next places)) in
    let rest = way (parts (drop n (drop next items))) (last_place (at ∷ take n (drop next places))) (drop n (drop next places)) in
    let step : way (parts (drop next items)) at (drop next places) ≡ line ++ rest =
    way_step (drop next items) at n (drop next places) first
    ∙ ap (λ b. line ++ (if b then codes "no match\n" else way (parts (drop n (drop next items))) (last_place (at ∷ take (length part) (drop next places))) (drop (length part) (drop next places)))) enough
    ∙ ap (λ k. line ++ way (parts (drop n (drop next items))) (last_place (at ∷ take k (drop next places))) (drop k (drop next places))) long in
    let sum : n + next ≡ next + n = omega arith in
    let items_left : drop n (drop next items) ≡ drop (next + n) items = drop-drop n next items in
    let places_left : drop n (drop next places) ≡ drop (next + n) places = drop-drop n next places in
    record {
      behind = omega (arith, within, w.behind);
      led = omega (arith, led, w.led);
      done = w.done ++ line;
      put = put ∙ ap (λ told. appended told line) w.put ∙ appended-appended old w.done line;
      left = w.left ∙ ap (λ l. w.done ++ l) step ∙ sym (append_assoc w.done line rest)
          ∙ ap (λ l. (w.done ++ line) ++ way (parts l) (last_place (at ∷ take n (drop next places))) (drop n (drop next places))) items_left
          ∙ ap (λ l. (w.done ++ line) ++ way (parts (drop (next + n) items)) (last_place (at ∷ take n (drop next places))) l) places_left;
    }

-- no item is left
pub written_matches : {T E : Type 0} (items : List PatItem) (places : List ℕ) (next at : ℕ) (old mid now : Option (List ℕ)) (result : Result T E) → Written items places next at old mid
    → length items ≤ next → Puts result mid now (codes "matches\n") → Puts result old now (way (parts items) 0 places)
written_matches items places next at old mid now result w end put =
    let none : drop next items ≡ [] = drop_all next items end in
    let whole : way (parts items) 0 places ≡ w.done ++ codes "matches\n" = w.left ∙ ap (λ l. w.done ++ way (parts l) at (drop next places)) none in
    subst (Puts result old now) (sym whole) (puts_behind w.done (codes "matches\n") old mid now result w.put put)

-- a part fails
failed_line : (items : List PatItem) (places : List ℕ) (next at n : ℕ) (old mid : Option (List ℕ)) → (w : Written items places next at old mid)
    → n ≤ length items - next → length places - next < n → parts (drop next items) ≡ take n (drop next items) ∷ parts (drop n (drop next items))
    → way (parts items) 0 places ≡ w.done ++ (part_line (take n (drop next items)) at (drop next places) ++ codes "no match\n")
failed_line items places next at n old mid w within few first =
    let part = take n (drop next items) in
    let line = part_line part at (drop next places) in
    let long : length part ≡ n = length-take-le n (drop next items) (omega (arith, within, length-drop next items)) in
    let lacks : nat_lt (length (drop next places)) (length part) ≡ true = lt-ltb (length (drop next places)) (length part) (omega (arith, few, long, length-drop next places)) in
    w.left ∙ ap (λ l. w.done ++ l) (way_step (drop next items) at n (drop next places) first
    ∙ ap (λ b. line ++ (if b then codes "no match\n" else way (parts (drop n (drop next items))) (last_place (at ∷ take (length part) (drop next places))) (drop (length part) (drop next places)))) lacks)

pub written_fails : {T E : Type 0} (items : List PatItem) (places : List ℕ) (next at n : ℕ) (old mid between now : Option (List ℕ)) (result : Result T E) → Written items places next at old mid
    → n ≤ length items - next → length places - next < n → parts (drop next items) ≡ take n (drop next items) ∷ parts (drop n (drop next items))
    → between ≡ appended mid (part_line (take n (drop next items)) at (drop next places)) → Puts result between now (codes "no match\n") → Puts result old now (way (parts items) 0 places)
written_fails items places next at n old mid between now result w within few first line put =
    let text = part_line (take n (drop next items)) at (drop next places) in
    subst (Puts result old now) (append_assoc w.done text (codes "no match\n") ∙ sym (failed_line items places next at n old mid w within few first))
    (puts_behind (w.done ++ text) (codes "no match\n") old between now result (line ∙ ap (λ told. appended told text) w.put ∙ appended-appended old w.done text) put)

-- a line was not put whole
pub written_part : (items : List PatItem) (places : List ℕ) (next at n : ℕ) (old mid now : Option (List ℕ)) → Written items places next at old mid
    → parts (drop next items) ≡ take n (drop next items) ∷ parts (drop n (drop next items))
    → PutsFront mid now (part_line (take n (drop next items)) at (drop next places)) → PutsFront old now (way (parts items) 0 places)
written_part items places next at n old mid now w first put =
    subst (PutsFront old now) (sym (w.left ∙ ap (λ l. w.done ++ l) (way_step (drop next items) at n (drop next places) first)))
    (PutsFront-behind old mid now w.done _ w.put (PutsFront-longer mid now (part_line (take n (drop next items)) at (drop next places)) _ put))

-- lines of groups

group_lines-append : (n : ℕ) (xs ys : List (ℕ × ℕ)) → group_lines n (xs ++ ys) ≡ group_lines n xs ++ group_lines (n + length xs) ys
group_lines-append n [] ys = ap (λ k. group_lines k ys) (sym (add-zero n))
group_lines-append n (x ∷ xs) ys =
    let count : n + 1 + length xs ≡ n + suc (length xs) = omega arith in
    ap (λ l. group_line n x ++ l) (group_lines-append (n + 1) xs ys ∙ ap (λ k. group_lines (n + 1) xs ++ group_lines k ys) count)
    ∙ sym (append_assoc (group_line n x) (group_lines (n + 1) xs) (group_lines (n + suc (length xs)) ys))

-- the lines of groups in three parts: those before the k-th, its own, and those behind it
in_three : (f : ℕ × ℕ → ℕ × ℕ) (xs : List (ℕ × ℕ)) (k : ℕ) (d : ℕ × ℕ) → k < length xs
    → group_lines 0 (map f xs) ≡ group_lines 0 (map f (take k xs)) ++ (group_line k (f (get_or xs k d)) ++ group_lines (k + 1) (map f (drop (suc k) xs)))
in_three f xs k d inside =
    let long : length (map f (take k xs)) ≡ k = length-map (take k xs) f ∙ length-take-le k xs (omega (arith, inside)) in
    ap (λ l. group_lines 0 (map f l)) (sym (take-append-drop k xs) ∙ ap (λ l. take k xs ++ l) (drop-cons xs k d inside))
    ∙ ap (group_lines 0) (map-append f (take k xs) (get_or xs k d ∷ drop (suc k) xs))
    ∙ group_lines-append 0 (map f (take k xs)) (f (get_or xs k d) ∷ map f (drop (suc k) xs))
    ∙ ap (λ n. group_lines 0 (map f (take k xs)) ++ (group_line n (f (get_or xs k d)) ++ group_lines (n + 1) (map f (drop (suc k) xs)))) (zero-add _ ∙ long)

pub groups_more : (f : ℕ × ℕ → ℕ × ℕ) (xs : List (ℕ × ℕ)) (k : ℕ) (d : ℕ × ℕ) (old mid now : Option (List ℕ)) → k < length xs
    → mid ≡ appended old (group_lines 0 (map f (take k xs))) → now ≡ appended mid (group_line k (f (get_or xs k d))) → now ≡ appended old (group_lines 0 (map f (take (k + 1) xs)))
groups_more f xs k d old mid now inside before put =
    let x = get_or xs k d in
    let long : length (map f (take k xs)) ≡ k = length-map (take k xs) f ∙ length-take-le k xs (omega (arith, inside)) in
    let grown : group_lines 0 (map f (take (k + 1) xs)) ≡ group_lines 0 (map f (take k xs)) ++ group_line k (f x) =
    ap (λ l. group_lines 0 (map f l)) (take_at_read xs k d inside).1
    ∙ ap (group_lines 0) (map-append f (take k xs) (x ∷ []))
    ∙ group_lines-append 0 (map f (take k xs)) (f x ∷ [])
    ∙ ap (λ n. group_lines 0 (map f (take k xs)) ++ (group_line n (f x) ++ [])) (zero-add _ ∙ long)
    ∙ ap (λ l. group_lines 0 (map f (take k xs)) ++ l) (append-nil (group_line k (f x))) in
    put ∙ ap (λ told. appended told (group_line k (f x))) before ∙ appended-appended old (group_lines 0 (map f (take k xs))) (group_line k (f x)) ∙ ap (appended old) (sym grown)

pub groups_part : (f : ℕ × ℕ → ℕ × ℕ) (xs : List (ℕ × ℕ)) (k : ℕ) (d : ℕ × ℕ) (old mid now : Option (List ℕ)) → k < length xs
    → mid ≡ appended old (group_lines 0 (map f (take k xs))) → PutsFront mid now (group_line k (f (get_or xs k d))) → PutsFront old now (group_lines 0 (map f xs))
groups_part f xs k d old mid now inside before put =
    subst (PutsFront old now) (sym (in_three f xs k d inside))
    (PutsFront-behind old mid now (group_lines 0 (map f (take k xs))) _ before (PutsFront-longer mid now (group_line k (f (get_or xs k d))) (group_lines (k + 1) (map f (drop (suc k) xs))) put))
