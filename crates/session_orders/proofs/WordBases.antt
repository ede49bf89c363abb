-- The bases of a word, letter by letter.
use Rattle.std.proofs.Common.{◌≡◌, ℕ, ◌+◌, ◌<◌, List, [], ◌∷◌, ◌++◌, Some, true, length, take, get_or, refl}
use Rattle.std.specs.List.{list_all}
use Rattle.std.proofs.lemmas.List.Folds.{list_all_more}
use Rattle.fuun_base.specs.declared.letters.Base.{Base}
use Rattle.fuun_base.specs.DnaFile.{bases}
use Rattle.fuun_base.specs.Letter.{base_of, is_letter}
use Rattle.fuun_base.proofs.Reading.{bases_more}

pub all_more : (word : List ℕ) (i : ℕ) (base : Base) → i < length word → base_of (get_or word i 0) ≡ Some base → list_all is_letter (take i word) ≡ true → list_all is_letter (take (i + 1) word) ≡ true
all_more word i base within is all = rw (list_all_more is_letter word i 0 within) (rw (all, is) refl)

pub read_more : (word : List ℕ) (i : ℕ) (base : Base) (read : List Base) → i < length word → base_of (get_or word i 0) ≡ Some base → read ≡ bases (take i word) → read ++ base ∷ [] ≡ bases (take (i + 1) word)
read_more word i base read within is before = rw (bases_more word i base within is) (rw before refl)
