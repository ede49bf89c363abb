-- Lemmas on a file that is read piece by piece.
use Rattle.std.proofs.Common.{◌≡◌, ℕ, ◌+◌, ◌<◌, ◌≤◌, List, [], ◌++◌, length, take, drop, Option, None, Some, IfSome, refl, sym, ap, ◌∙◌, subst, arith}
use Rattle.std.proofs.Math.Seq.{take-add}
use Rattle.std.proofs.lemmas.List.{length-append, length-take, length-take-le, take_all, take-take, take-append-le}
use Rattle.fuun_io.specs.Files.{Gives}

-- the bytes read so far are the first of the file, where its contents are told
abbrev pub ReadSoFar : Option (List ℕ) → List ℕ → Type 0
ReadSoFar told read = IfSome told (λ contents. read ≡ take (length read) contents)

-- nothing was read
pub ReadSoFar-nil : (told : Option (List ℕ)) → ReadSoFar told []
ReadSoFar-nil None = tt
ReadSoFar-nil (Some contents) = refl

pub ReadSoFar-more : (told : Option (List ℕ)) (read : List ℕ) (count : ℕ) (buffer : List ℕ) → count ≤ length buffer → ReadSoFar told read → IfSome told (λ contents. Gives contents (length read) count buffer) → ReadSoFar told (read ++ take count buffer)
ReadSoFar-more None read count buffer bound front given = tt
ReadSoFar-more (Some contents) read count buffer bound front given =
    let len : length (read ++ take count buffer) ≡ length read + count = length-append read (take count buffer) ∙ ap (λ n. length read + n) (length-take-le count buffer bound) in
    let parts : read ++ take count buffer ≡ take (length read) contents ++ take count (drop (length read) contents) = ap (λ l. l ++ take count buffer) front ∙ ap (λ l. take (length read) contents ++ l) given.bytes in
    parts ∙ sym (take-add (length read) count contents) ∙ ap (λ n. take n contents) (sym len)

-- none more was given, so the file is whole
pub ReadSoFar-whole : (told : Option (List ℕ)) (read buffer : List ℕ) → ReadSoFar told read → IfSome told (λ contents. Gives contents (length read) 0 buffer) → IfSome told (λ contents. read ≡ contents)
ReadSoFar-whole None read buffer front given = tt
ReadSoFar-whole (Some contents) read buffer front given = front ∙ take_all (length read) contents (given.ends.0 refl)

-- more was read than is allowed
pub ReadSoFar-longer : (told : Option (List ℕ)) (read : List ℕ) (cap : ℕ) → cap < length read → ReadSoFar told read → IfSome told (λ contents. cap < length contents)
ReadSoFar-longer None read cap long front = tt
ReadSoFar-longer (Some contents) read cap long front =
    let len = ap length front ∙ length-take (length read) contents in omega arith

-- a piece of the file was given and appended
pub ReadSoFar-step : (now told : Option (List ℕ)) (read new seen buffer rest : List ℕ) (place count room : ℕ) → now ≡ told → place ≡ length read
    → count ≤ length buffer → count ≤ room → seen ≡ take room (buffer ++ rest) → new ≡ read ++ take count seen
    → ReadSoFar told read → IfSome now (λ contents. Gives contents place count buffer) → ReadSoFar told new
ReadSoFar-step now told read new seen buffer rest place count room same at bound fits is_seen is_new front given =
    let taken : take count seen ≡ take count buffer = ap (take count) is_seen ∙ take-take count room (buffer ++ rest) fits ∙ take-append-le count buffer rest bound in
    let here : IfSome told (λ contents. Gives contents (length read) count buffer) =
    subst (λ o. IfSome o (λ contents. Gives contents (length read) count buffer)) same (subst (λ n. IfSome now (λ contents. Gives contents n count buffer)) at given) in
    subst (ReadSoFar told) (sym (is_new ∙ ap (λ l. read ++ l) taken)) (ReadSoFar-more told read count buffer bound front here)
