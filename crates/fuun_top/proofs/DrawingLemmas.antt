-- What one command more makes of a picture.
use Rattle.std.proofs.Common.{◌≡◌, ℕ, ◌+◌, ◌<◌, List, [], ◌∷◌, ◌++◌, length, take, get_or, refl, sym, ap, ◌∙◌, subst}
use Rattle.std.proofs.lemmas.List.{take_more}
use Rattle.fuun_base.specs.declared.letters.Base.{Base}
use Rattle.painter.specs.Picture.{Picture, Table, Acts, Builds}
use Rattle.painter.specs.Taking.{builds_append}

-- one command more of a list
pub builds_more : (side most : ℕ) (table : Table) (rna : List (List Base)) (i : ℕ) (command : List Base) (p q r : Picture) → i < length rna
    → command ≡ get_or rna i command → Builds side most table (take i rna) p q → Acts side most table command q r → Builds side most table (take (i + 1) rna) p r
builds_more side most table rna i command p q r within is built acts =
    let longer : take i rna ++ command ∷ [] ≡ take (i + 1) rna = sym (take_more rna i command within ∙ ap (λ c. take i rna ++ c ∷ []) (sym is)) in
    subst (λ l. Builds side most table l p r) longer (builds_append side most table (take i rna) (command ∷ []) p q r built (r, (acts, refl)))
