-- What cells stand for in a target.
use Rattle.std.specs.Prelude.{List, map, slice_index_or}
use Rattle.fuun_base.specs.declared.letters.Base.{Base}
use Rattle.fuun_base.specs.declared.letters.Base.TheVariants.{I}
use Rattle.sym_strand.specs.declared.cells.Cell.{Cell}
use Rattle.sym_strand.specs.declared.cells.Cell.TheVariants.{Known, Target}

-- the base that a cell stands for in a target
abbrev pub base_in : List Base → Cell → Base
base_in d (Known b) = b
base_in d (Target place) = slice_index_or d place I

-- the bases that cells stand for in a target
abbrev pub fill : List Base → List Cell → List Base
fill d z = map (base_in d) z
