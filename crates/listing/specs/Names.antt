-- The lines of `names`.
use Rattle.std.specs.Prelude.{ℕ, List, ◌++◌, codes, flat_map}
use Rattle.fuun_base.specs.declared.letters.Base.{Base}
use Rattle.rna_code.specs.Commands.{name_of}
use Rattle.rna_code.specs.declared.profile.Profile.{Profile}
use Rattle.listing.specs.Texts.{letters_text}

-- the letters of a command, and its name in a profile's table
abbrev pub name_line : Profile → List Base → List ℕ
name_line profile command = letters_text command ++ (codes " " ++ (name_of profile command ++ codes "\n"))

-- a line for each command
abbrev pub names : Profile → List (List Base) → List ℕ
names profile rna = flat_map (name_line profile) rna
