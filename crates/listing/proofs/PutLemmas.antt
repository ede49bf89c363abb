-- Texts that are put part by part.
pub use Rattle.letters_out.proofs.PieceLemmas.{puts_behind}
use Rattle.std.proofs.Common.{◌≡◌, ℕ, suc, ◌+◌, ◌<◌, List, [], ◌∷◌, ◌++◌, length, get_or, take, drop, flat_map, Option, Result, sym, ap, subst, ◌∙◌, append-nil, append_assoc, take-append-drop, drop-cons}
use Rattle.std.proofs.lemmas.List.Concat.{flat_map-cons}
use Rattle.std.proofs.lemmas.Grind.{flat_map-append, take_at_read}
use Rattle.fuun_io.specs.Written.{appended, Puts, PutsFront}
use Rattle.fuun_io.proofs.WrittenLemmas.{appended-appended, PutsFront-behind, PutsFront-longer}

-- a text of three parts, of which the first two were put together
pub puts_in_three : {T E : Type 0} → (first second third : List ℕ) (old mid new : Option (List ℕ)) (result : Result T E) → mid ≡ appended old (first ++ second) → Puts result mid new third → Puts result old new (first ++ (second ++ third))
puts_in_three first second third old mid new result before put =
    subst (λ l. Puts result old new l) (append_assoc first second third) (puts_behind (first ++ second) third old mid new result before put)

pub part_of_three : (first second third : List ℕ) (old new : Option (List ℕ)) → PutsFront old new (first ++ second) → PutsFront old new (first ++ (second ++ third))
part_of_three first second third old new put = subst (λ l. PutsFront old new l) (append_assoc first second third) (PutsFront-longer old new (first ++ second) third put)

-- one item more
pub items_more_at : {A : Type 0} (text : A → List ℕ) (xs : List A) (k : ℕ) (d : A) (old mid new : Option (List ℕ)) → k < length xs
    → mid ≡ appended old (flat_map text (take k xs)) → new ≡ appended mid (text (get_or xs k d)) → new ≡ appended old (flat_map text (take (k + 1) xs))
items_more_at text xs k d old mid new inside before put =
    let x = get_or xs k d in
    let grown : flat_map text (take (k + 1) xs) ≡ flat_map text (take k xs) ++ text x =
    ap (flat_map text) (take_at_read xs k d inside).1 ∙ flat_map-append text (take k xs) (x ∷ []) ∙ ap (λ l. flat_map text (take k xs) ++ l) (flat_map-cons text x [] ∙ append-nil (text x)) in
    put ∙ ap (λ told. appended told (text x)) before ∙ appended-appended old (flat_map text (take k xs)) (text x) ∙ ap (appended old) (sym grown)

pub items_more : {A : Type 0} (text : A → List ℕ) (xs : List A) (k : ℕ) (x : A) (old mid new : Option (List ℕ)) → k < length xs → x ≡ get_or xs k x
    → mid ≡ appended old (flat_map text (take k xs)) → new ≡ appended mid (text x) → new ≡ appended old (flat_map text (take (k + 1) xs))
items_more text xs k x old mid new inside item before put = items_more_at text xs k x old mid new inside before (put ∙ ap (λ y. appended mid (text y)) item)

-- a front of one item's text
pub items_part_at : {A : Type 0} (text : A → List ℕ) (xs all : List A) (k : ℕ) (d : A) (old mid new : Option (List ℕ)) → xs ≡ all → k < length xs
    → mid ≡ appended old (flat_map text (take k xs)) → PutsFront mid new (text (get_or xs k d)) → PutsFront old new (flat_map text all)
items_part_at text xs all k d old mid new same inside before put =
    let x = get_or xs k d in
    let behind = PutsFront-behind old mid new (flat_map text (take k xs)) (text x ++ flat_map text (drop (suc k) xs)) before (PutsFront-longer mid new (text x) (flat_map text (drop (suc k) xs)) put) in
    let whole : flat_map text all ≡ flat_map text (take k xs) ++ (text x ++ flat_map text (drop (suc k) xs)) =
    ap (flat_map text) (sym same ∙ sym (take-append-drop k xs)) ∙ flat_map-append text (take k xs) (drop k xs)
    ∙ ap (λ l. flat_map text (take k xs) ++ l) (ap (flat_map text) (drop-cons xs k d inside) ∙ flat_map-cons text x (drop (suc k) xs)) in
    record { front = behind.front; rest = behind.rest; whole = whole ∙ behind.whole; put = behind.put }

pub items_part : {A : Type 0} (text : A → List ℕ) (xs all : List A) (k : ℕ) (x : A) (old mid new : Option (List ℕ)) → xs ≡ all → k < length xs → x ≡ get_or xs k x
    → mid ≡ appended old (flat_map text (take k xs)) → PutsFront mid new (text x) → PutsFront old new (flat_map text all)
items_part text xs all k x old mid new same inside item before put = items_part_at text xs all k x old mid new same inside before (subst (λ y. PutsFront mid new (text y)) item put)
