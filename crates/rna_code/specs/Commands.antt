-- The commands of RNA, as the contest's chapter on images lists them. The names are this project's own.
use Rattle.std.specs.Prelude.{ℕ, Bool, List, [], ◌∷◌, Option, codes, find, map}
use Rattle.std.specs.Option.{option_map, option_map_or}
use Rattle.std.specs.Str.{bytes_eq}
use Rattle.fuun_base.specs.declared.letters.Base.{Base}
use Rattle.fuun_base.specs.Letter.{letter_of}
use Rattle.rna_code.specs.declared.acts.Act.{Act}
use Rattle.rna_code.specs.declared.acts.Act.TheVariants.{Add, EmptyBucket, Move, TurnLeft, TurnRight, Mark, Line, Fill, AddLayer, CopyLayer, Compose, Clip}
use Rattle.rna_code.specs.declared.profile.Profile.{Profile}
use Rattle.rna_code.specs.declared.profile.Profile.TheVariants.{Plain, Wide}
use Rattle.rna_code.specs.declared.acts.Ink.TheVariants.{Black, Red, Green, Yellow, Blue, Magenta, Cyan, White, Transparent, Opaque}

-- one row of a table: the letters of a command, its name, and what it does
pub record Row : Type 0 where
  pub letters : List ℕ
  pub name : List ℕ
  pub act : Act

abbrev pub row : List ℕ → List ℕ → Act → Row
row letters name act = record { letters = letters; name = name; act = act }

-- the commands that the wide table has beside the twenty: this project's own
abbrev pub further_rows : Profile → List Row
further_rows Plain = []
further_rows Wide = row (codes "PIPIIFP") (codes "copy") CopyLayer ∷ []

-- the table of a profile: the twenty commands, and those that it has beside them
abbrev pub rows_of : Profile → List Row
rows_of profile =
    row (codes "PIPIIIC") (codes "black") (Add Black)
    ∷ row (codes "PIPIIIP") (codes "red") (Add Red)
    ∷ row (codes "PIPIICC") (codes "green") (Add Green)
    ∷ row (codes "PIPIICF") (codes "yellow") (Add Yellow)
    ∷ row (codes "PIPIICP") (codes "blue") (Add Blue)
    ∷ row (codes "PIPIIFC") (codes "magenta") (Add Magenta)
    ∷ row (codes "PIPIIFF") (codes "cyan") (Add Cyan)
    ∷ row (codes "PIPIIPC") (codes "white") (Add White)
    ∷ row (codes "PIPIIPF") (codes "transparent") (Add Transparent)
    ∷ row (codes "PIPIIPP") (codes "opaque") (Add Opaque)
    ∷ row (codes "PIIPICP") (codes "empty") EmptyBucket
    ∷ row (codes "PIIIIIP") (codes "move") Move
    ∷ row (codes "PCCCCCP") (codes "counterclockwise") TurnLeft
    ∷ row (codes "PFFFFFP") (codes "clockwise") TurnRight
    ∷ row (codes "PCCIFFP") (codes "mark") Mark
    ∷ row (codes "PFFICCP") (codes "line") Line
    ∷ row (codes "PIIPIIP") (codes "fill") Fill
    ∷ row (codes "PCCPFFP") (codes "layer") AddLayer
    ∷ row (codes "PFFPCCP") (codes "compose") Compose
    ∷ row (codes "PFFICCF") (codes "clip") Clip
    ∷ further_rows profile

-- a word is these letters
unfoldable pub spells : List ℕ → List ℕ → Bool
spells word letters = bytes_eq word letters

-- the first row with these letters
abbrev pub row_among : List Row → List ℕ → Option Row
row_among table word = find (λ r. spells word r.letters) table

-- the row of a command in a profile's table, if it has one
unfoldable pub row_of : Profile → List Base → Option Row
row_of profile command = row_among (rows_of profile) (map letter_of command)

-- what a command does, if it is in the table
abbrev pub act_of : Profile → List Base → Option Act
act_of profile command = option_map (λ r. r.act) (row_of profile command)

-- the name of a command: `other` outside the table
abbrev pub name_of : Profile → List Base → List ℕ
name_of profile command = option_map_or (λ r. r.name) (row_of profile command) (codes "other")
