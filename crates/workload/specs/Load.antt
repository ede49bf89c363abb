-- The target and the patches of a seed.
use Rattle.std.specs.Prelude.{ℕ, zero, suc, ◌+◌, ◌-◌, min, List, [], ◌∷◌, length}
use Rattle.fuun_base.specs.declared.letters.Base.{Base}
use Rattle.patch_text.specs.declared.rows.PatchRow.{PatchRow}
use Rattle.patch_text.specs.declared.rows.PatchRow.TheVariants.{Edit}
use Rattle.patch_text.specs.Contents.{Contents, put_of}
use Rattle.patch_text.specs.Lengths.{length_after}
use Rattle.workload.specs.Numbers.{drawn, behind, bases_drawn}

-- the row of a round on n bases: its place, its cut, how many bases it puts, and each of these
unfoldable pub row_drawn : ℕ → ℕ → PatchRow
row_drawn n x =
    let place = drawn x (n + 1) in
    let cut = min (drawn (behind 1 x) 16) (n - place) in
    let count = drawn (behind 2 x) 8 in
    Edit place cut (bases_drawn count (behind 3 x))

-- the state after it: three draws, and one for each base
unfoldable pub behind_row : ℕ → ℕ → ℕ
behind_row n x = behind (length (put_of (row_drawn n x))) (behind 3 x)

-- the rows of so many rounds; each is drawn for the length that those before it leave
abbrev pub rows_drawn : ℕ → ℕ → ℕ → List PatchRow
rows_drawn zero n x = []
rows_drawn (suc rounds) n x = row_drawn n x ∷ rows_drawn rounds (length_after n (row_drawn n x)) (behind_row n x)

-- the target of a seed: so many bases
unfoldable pub target_of : ℕ → ℕ → List Base
target_of seed size = bases_drawn size seed

-- the patches of a seed, drawn behind its target
unfoldable pub patches_of : ℕ → ℕ → ℕ → Contents
patches_of seed size rounds = record { stated = size; rows = rows_drawn rounds size (behind size seed) }
