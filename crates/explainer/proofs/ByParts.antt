-- Texts that are put line by line.
use Rattle.std.proofs.Common.{◌≡◌, ℕ, suc, ◌+◌, ◌<◌, List, [], ◌∷◌, ◌++◌, length, get_or, take, drop, Option, sym, ap, ◌∙◌, append-nil, take-append-drop, drop-cons}
use Rattle.std.specs.List.{flat_map}
use Rattle.std.proofs.lemmas.List.{take_more}
use Rattle.std.proofs.lemmas.List.Concat.{flat_map-cons}
use Rattle.std.proofs.lemmas.Grind.{flat_map-append}
use Rattle.fuun_io.specs.Written.{appended, PutsFront}
use Rattle.fuun_io.proofs.WrittenLemmas.{appended-appended, PutsFront-behind, PutsFront-longer}

-- one line more
pub lines_more : {A : Type 0} (line : A → List ℕ) (xs : List A) (k : ℕ) (x : A) (old mid new : Option (List ℕ)) → k < length xs → x ≡ get_or xs k x
    → mid ≡ appended old (flat_map line (take k xs)) → new ≡ appended mid (line x) → new ≡ appended old (flat_map line (take (k + 1) xs))
lines_more line xs k x old mid new inside item before put =
    let grown : flat_map line (take (k + 1) xs) ≡ flat_map line (take k xs) ++ line x =
    ap (flat_map line) (take_more xs k x inside ∙ ap (λ y. take k xs ++ y ∷ []) (sym item)) ∙ flat_map-append line (take k xs) (x ∷ []) ∙ ap (λ l. flat_map line (take k xs) ++ l) (append-nil (line x)) in
    put ∙ ap (λ told. appended told (line x)) before ∙ appended-appended old (flat_map line (take k xs)) (line x) ∙ ap (appended old) (sym grown)

-- a front of one line
pub lines_part : {A : Type 0} (line : A → List ℕ) (xs : List A) (k : ℕ) (x : A) (old mid new : Option (List ℕ)) → k < length xs → x ≡ get_or xs k x
    → mid ≡ appended old (flat_map line (take k xs)) → PutsFront mid new (line x) → PutsFront old new (flat_map line xs)
lines_part line xs k x old mid new inside item before put =
    let behind = PutsFront-behind old mid new (flat_map line (take k xs)) (line x ++ flat_map line (drop (suc k) xs)) before (PutsFront-longer mid new (line x) (flat_map line (drop (suc k) xs)) put) in
    let whole : flat_map line xs ≡ flat_map line (take k xs) ++ (line x ++ flat_map line (drop (suc k) xs)) =
    ap (flat_map line) (sym (take-append-drop k xs)) ∙ flat_map-append line (take k xs) (drop k xs)
    ∙ ap (λ l. flat_map line (take k xs) ++ l) (ap (flat_map line) (drop-cons xs k x inside ∙ ap (λ y. y ∷ drop (suc k) xs) (sym item)) ∙ flat_map-cons line x (drop (suc k) xs)) in
    record { front = behind.front; rest = behind.rest; whole = whole ∙ behind.whole; put = behind.put }
