-- The bases of a text of letters.
use Rattle.std.proofs.Common.{◌≡◌, ℕ, ◌+◌, ◌<◌, ◌≤◌, true, false, List, Some, None, length, get_or, take, refl, sym, ap, ◌∙◌}
use Rattle.std.specs.Prelude.{is_some}
use Rattle.std.specs.List.{list_all}
use Rattle.std.proofs.lemmas.List.{take_all}
use Rattle.std.proofs.lemmas.List.Folds.{list_all_more, list_all_at}
use Rattle.fuun_base.specs.declared.letters.Base.{Base}
use Rattle.fuun_base.specs.DnaFile.{bases}
use Rattle.fuun_base.specs.Letter.{base_of, is_letter}
use Rattle.patch_text.specs.Meaning.{bases_of}

-- the letters before a place are letters of bases, and these are the bases
pub record AreRead (text : List ℕ) (place : ℕ) (put : List Base) : Type 0 where
  pub bases : put ≡ bases (take place text)
  pub letters : list_all is_letter (take place text) ≡ true

pub letters_more : (text : List ℕ) (place : ℕ) (base : Base) → place < length text → base_of (get_or text place 0) ≡ Some base → list_all is_letter (take place text) ≡ true → list_all is_letter (take (place + 1) text) ≡ true
letters_more text place base within is before =
    let here : is_letter (get_or text place 0) ≡ true = ap is_some is in
    list_all_more is_letter text place 0 within ∙ rw (before, here) refl

pub all_read : (text : List ℕ) (put : List Base) (place : ℕ) → length text ≤ place → AreRead text place put → Some put ≡ bases_of text
all_read text put place all read =
    let whole : take place text ≡ text = take_all place text all in
    let letters : list_all is_letter text ≡ true = sym (ap (list_all is_letter) whole) ∙ read.letters in
    rw letters (ap Some (read.bases ∙ ap bases whole))

pub none_read : (text : List ℕ) (place : ℕ) → place < length text → base_of (get_or text place 0) ≡ None → None ≡ bases_of text
none_read text place within is =
    let here : is_letter (get_or text place 0) ≡ false = ap is_some is in
    rw (list_all_at is_letter text place 0 within here) refl
