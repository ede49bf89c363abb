-- DNA of which a part is not known, as a list of cells: bases that are known, and places of a target.
use Rattle.std.specs.Prelude.{ℕ, zero, suc, ◌+◌, Bool, true, false, List, [], ◌∷◌, ◌++◌, map}
use Rattle.fuun_base.specs.declared.letters.Base.{Base}
use Rattle.sym_strand.specs.declared.cells.Cell.{Cell}
use Rattle.sym_strand.specs.declared.cells.Cell.TheVariants.{Known, Target}

-- so many places of the target, from one on
unfoldable pub places_from : ℕ → ℕ → List Cell
places_from lo zero = []
places_from lo (suc count) = Target lo ∷ places_from (lo + 1) count

-- a prefix that is known, and then a target of so many bases
abbrev pub start_cells : List Base → ℕ → List Cell
start_cells prefix length = map Known prefix ++ places_from 0 length

-- no cell is a place of the target
abbrev pub all_known : List Cell → Bool
all_known [] = true
all_known (Known b ∷ z) = all_known z
all_known (Target place ∷ z) = false

-- the longest prefix that holds bases alone
abbrev pub known_front : List Cell → List Base
known_front [] = []
known_front (Known b ∷ z) = b ∷ known_front z
known_front (Target place ∷ z) = []
