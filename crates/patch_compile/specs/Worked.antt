-- Prefixes that were worked out by hand, and what the rows make of a DNA.
use Rattle.std.specs.Prelude.{◌≡◌, List, [], ◌∷◌}
use Rattle.fuun_base.specs.declared.letters.Base.{Base}
use Rattle.fuun_base.specs.declared.letters.Base.TheVariants.{I, C, F, P}
use Rattle.patch_text.specs.declared.rows.PatchRow.{PatchRow}
use Rattle.patch_text.specs.declared.rows.PatchRow.TheVariants.{Edit, Copy, Move}
use Rattle.patch_compile.specs.Splice.{patched}
use Rattle.patch_compile.specs.Code.{prefix}

-- the prefix of rows, and the DNA that they leave of another
pub record Makes (rows : List PatchRow) (code d left : List Base) : Type 0 where
  pub prefix : prefix rows ≡ code
  pub leaves : patched d rows ≡ left

-- II in the place of the base at 2
abbrev pub EditWorked : Type 0
EditWorked =
    Makes (Edit 2 1 (I ∷ I ∷ []) ∷ [])
    (I ∷ I ∷ P ∷ I ∷ P ∷ I ∷ C ∷ P ∷ I ∷ I ∷ C ∷ I ∷ P ∷ C ∷ P ∷ I ∷ I ∷ C ∷ I ∷ F ∷ P ∷ P ∷ C ∷ C ∷ I ∷ I ∷ C ∷ [])
    (C ∷ F ∷ P ∷ C ∷ []) (C ∷ F ∷ I ∷ I ∷ C ∷ [])

-- the first part skips the 24 bases of the second
abbrev pub TwoEditsWorked : Type 0
TwoEditsWorked =
    Makes (Edit 0 1 [] ∷ Edit 0 0 (P ∷ []) ∷ [])
    (I ∷ I ∷ P ∷ I ∷ P ∷ I ∷ I ∷ I ∷ C ∷ C ∷ P ∷ I ∷ I ∷ C ∷ I ∷ P ∷ C ∷ P ∷ I ∷ I ∷ C ∷ I ∷ F ∷ P ∷ P ∷ I ∷ I ∷ C
    ∷ I ∷ I ∷ P ∷ I ∷ P ∷ P ∷ I ∷ I ∷ C ∷ I ∷ P ∷ P ∷ I ∷ I ∷ C ∷ I ∷ F ∷ P ∷ P ∷ I ∷ C ∷ I ∷ I ∷ C ∷ [])
    (C ∷ F ∷ []) (P ∷ F ∷ [])

-- the first base goes to the end
abbrev pub MoveWorked : Type 0
MoveWorked =
    Makes (Move 0 1 3 ∷ [])
    (I ∷ I ∷ P ∷ I ∷ P ∷ P ∷ I ∷ I ∷ C ∷ I ∷ I ∷ P ∷ I ∷ P ∷ C ∷ P ∷ I ∷ I ∷ C ∷ I ∷ I ∷ P ∷ I ∷ P ∷ C ∷ C ∷ P ∷ I ∷ I ∷ C ∷ I ∷ I ∷ C
    ∷ I ∷ F ∷ P ∷ P ∷ I ∷ F ∷ P ∷ I ∷ C ∷ P ∷ I ∷ F ∷ P ∷ C ∷ P ∷ I ∷ I ∷ C ∷ [])
    (C ∷ F ∷ P ∷ C ∷ []) (F ∷ P ∷ C ∷ C ∷ [])

-- the two bases in the middle are put between themselves
abbrev pub CopyWorked : Type 0
CopyWorked =
    Makes (Copy 1 2 2 ∷ [])
    (I ∷ I ∷ P ∷ I ∷ P ∷ C ∷ P ∷ I ∷ I ∷ C ∷ I ∷ I ∷ P ∷ I ∷ P ∷ C ∷ P ∷ I ∷ I ∷ C ∷ I ∷ I ∷ P ∷ I ∷ P ∷ C ∷ P ∷ I ∷ I ∷ C ∷ I ∷ I ∷ C
    ∷ I ∷ F ∷ P ∷ P ∷ I ∷ F ∷ P ∷ C ∷ P ∷ I ∷ F ∷ P ∷ C ∷ P ∷ I ∷ F ∷ P ∷ I ∷ C ∷ P ∷ I ∷ F ∷ P ∷ I ∷ C ∷ P ∷ I ∷ I ∷ C ∷ [])
    (C ∷ F ∷ P ∷ C ∷ []) (C ∷ F ∷ F ∷ P ∷ P ∷ C ∷ [])
