-- Some replacements.
use Rattle.std.specs.Prelude.{◌≡◌, [], ◌∷◌}
use Rattle.fuun_base.specs.declared.letters.Base.TheVariants.{I, C, F, P}
use Rattle.dna_items.specs.declared.items.TplItem.TheVariants.{Base as Literal, Group, Len}
use Rattle.replacer.specs.Replacement.{replaced}

-- a text as it stands, quoted seven times, its length, and a group past the last
abbrev pub ReplacementWorked : Type 0
ReplacementWorked =
    (replaced (C ∷ F ∷ P ∷ C ∷ []) (Literal P ∷ Literal I ∷ Group 0 0 ∷ []) ((0, 2) ∷ []) 3 ≡ P ∷ I ∷ C ∷ F ∷ C ∷ [])
    × (replaced (C ∷ F ∷ P ∷ C ∷ []) (Group 0 7 ∷ []) ((0, 2) ∷ []) 4 ≡ I ∷ C ∷ C ∷ F ∷ C ∷ F ∷ F ∷ P ∷ [])
    × (replaced (C ∷ F ∷ []) (Len 0 ∷ []) ((0, 2) ∷ []) 2 ≡ I ∷ C ∷ P ∷ [])
    × (replaced (C ∷ F ∷ []) (Group 1 9 ∷ Len 1 ∷ []) ((0, 2) ∷ []) 1 ≡ P ∷ F ∷ [])
