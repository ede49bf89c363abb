-- A line that was not put whole, behind those in front of it.
use Rattle.std.proofs.Common.{◌≡◌, ℕ, suc, ◌<◌, List, ◌++◌, length, get_or, take, drop, flat_map, Option, sym, ap, ◌∙◌, take-append-drop, drop-cons}
use Rattle.std.proofs.lemmas.List.Concat.{flat_map-cons}
use Rattle.std.proofs.lemmas.Grind.{flat_map-append}
use Rattle.fuun_io.specs.Written.{appended, PutsFront}
use Rattle.fuun_io.proofs.WrittenLemmas.{PutsFront-behind, PutsFront-longer}

pub part_at : {A : Type 0} (text : A → List ℕ) (xs : List A) (k : ℕ) (d : A) (old mid new : Option (List ℕ)) → k < length xs
    → mid ≡ appended old (flat_map text (take k xs)) → PutsFront mid new (text (get_or xs k d)) → PutsFront old new (flat_map text xs)
part_at text xs k d old mid new inside before put =
    let x = get_or xs k d in
    let rest = flat_map text (drop (suc k) xs) in
    let behind = PutsFront-behind old mid new (flat_map text (take k xs)) (text x ++ rest) before (PutsFront-longer mid new (text x) rest put) in
    let whole : flat_map text xs ≡ flat_map text (take k xs) ++ (text x ++ rest) =
    ap (flat_map text) (sym (take-append-drop k xs)) ∙ flat_map-append text (take k xs) (drop k xs)
    ∙ ap (λ l. flat_map text (take k xs) ++ l) (ap (flat_map text) (drop-cons xs k d inside) ∙ flat_map-cons text x (drop (suc k) xs)) in
    record { front = behind.front; rest = behind.rest; whole = whole ∙ behind.whole; put = behind.put }
