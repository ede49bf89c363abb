-- Patterns that no DNA has, a piece at a time.
use Rattle.std.proofs.Common.{◌≡◌, ℕ, suc, ◌+◌, ◌<◌, ◌≤◌, Bool, true, false, Option, Some, None, List, [], ◌∷◌, length, drop, get_or, arith, refl, sym, ap, ◌∙◌, add-one, drop-cons}
use Rattle.std.specs.Prelude.{◌==◌, if◌then◌else◌}
use Rattle.std.proofs.lemmas.List.{drop_all}
use Rattle.std.proofs.lemmas.Bool.{eq-eqb, ne_eqb}
use Rattle.source_text.specs.declared.pieces.Item.{Item}
use Rattle.source_text.specs.declared.pieces.Item.TheVariants.{Base as Literal, Group, Len, Given, Skip, Search, Start, Stop}
use Rattle.source_text.specs.declared.pieces.Piece.{Piece}
use Rattle.source_text.specs.Judging.{behind_piece, is_search, no_code, refuses}

next_piece : (pieces : List Piece) (i : ℕ) (piece : Piece) → i < length pieces → piece ≡ get_or pieces i piece → drop i pieces ≡ piece ∷ drop (i + 1) pieces
next_piece pieces i piece within is = rw (add-one, drop-cons pieces i piece within) (ap (λ p. p ∷ drop (suc i) pieces) (sym is))

stop : (arrow groups : ℕ) (search : Bool) (piece : Piece) (rest : List Piece) → refuses groups search piece.item ≡ true → no_code arrow groups search (piece ∷ rest) ≡ Some piece.at
unfolding no_code
stop arrow groups search piece rest is = rw is refl

more : (arrow groups : ℕ) (search : Bool) (piece : Piece) (rest : List Piece) → refuses groups search piece.item ≡ false
    → no_code arrow groups search (piece ∷ rest) ≡ no_code arrow (behind_piece groups piece.item) (is_search piece.item) rest
unfolding no_code
more arrow groups search piece rest other = rw other refl

end : (arrow groups : ℕ) (search : Bool) → no_code arrow groups search [] ≡ (if groups == 0 then None else Some arrow)
unfolding no_code
end arrow groups search = refl

pub behind_few : (groups : ℕ) (item : Item) → behind_piece groups item ≤ groups + 1
behind_few groups (Literal b) = omega arith
behind_few groups (Group n level) = omega arith
behind_few groups (Len n) = omega arith
behind_few groups (Given k) = omega arith
behind_few groups (Skip sum) = omega arith
behind_few groups (Search s) = omega arith
behind_few groups Start = omega arith
behind_few groups Stop = omega arith

pub refused_at : (arrow groups i : ℕ) (search : Bool) (pieces : List Piece) (piece : Piece) (whole : Option ℕ) → i < length pieces → piece ≡ get_or pieces i piece → refuses groups search piece.item ≡ true
    → no_code arrow groups search (drop i pieces) ≡ whole → Some piece.at ≡ whole
refused_at arrow groups i search pieces piece whole within is bad before =
    sym (stop arrow groups search piece (drop (i + 1) pieces) bad) ∙ sym (ap (no_code arrow groups search) (next_piece pieces i piece within is)) ∙ before

pub goes_on : (arrow groups now i : ℕ) (search next : Bool) (pieces : List Piece) (piece : Piece) (whole : Option ℕ) → i < length pieces → piece ≡ get_or pieces i piece → refuses groups search piece.item ≡ false
    → now ≡ behind_piece groups piece.item → next ≡ is_search piece.item
    → no_code arrow groups search (drop i pieces) ≡ whole → no_code arrow now next (drop (i + 1) pieces) ≡ whole
goes_on arrow groups now i search next pieces piece whole within is good a b before =
    ap (λ g. no_code arrow g next (drop (i + 1) pieces)) a
    ∙ ap (λ s. no_code arrow (behind_piece groups piece.item) s (drop (i + 1) pieces)) b
    ∙ sym (more arrow groups search piece (drop (i + 1) pieces) good)
    ∙ sym (ap (no_code arrow groups search) (next_piece pieces i piece within is))
    ∙ before

at_end : (arrow groups i : ℕ) (search : Bool) (pieces : List Piece) (whole : Option ℕ) → length pieces ≤ i → no_code arrow groups search (drop i pieces) ≡ whole
    → (if groups == 0 then None else Some arrow) ≡ whole
at_end arrow groups i search pieces whole past before =
    sym (end arrow groups search) ∙ sym (ap (no_code arrow groups search) (drop_all i pieces past)) ∙ before

pub all_closed : (arrow groups i : ℕ) (search : Bool) (pieces : List Piece) (whole : Option ℕ) → length pieces ≤ i → groups ≡ 0 → no_code arrow groups search (drop i pieces) ≡ whole → None ≡ whole
all_closed arrow groups i search pieces whole past none before =
    (let make : Bool → Option ℕ = λ b. if b then None else Some arrow in sym (ap make (eq-eqb groups 0 none))) ∙ at_end arrow groups i search pieces whole past before

pub some_open : (arrow groups i : ℕ) (search : Bool) (pieces : List Piece) (whole : Option ℕ) → length pieces ≤ i → (groups ≡ 0 → ⊥) → no_code arrow groups search (drop i pieces) ≡ whole → Some arrow ≡ whole
some_open arrow groups i search pieces whole past some before =
    (let make : Bool → Option ℕ = λ b. if b then None else Some arrow in sym (ap make (ne_eqb groups 0 some))) ∙ at_end arrow groups i search pieces whole past before
