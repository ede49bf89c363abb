-- Commands of RNA: how long they are, and how a file of their lines is read.
use Rattle.std.specs.Prelude.{◌≡◌, ℕ, ◌≤◌, None, List, length}
use Rattle.std.specs.List.{AllByRecursion}
use Rattle.fuun_base.specs.declared.letters.Base.{Base}
use Rattle.fuun_base.specs.RnaFile.{commands, first_bad}
use Rattle.dna_reader.specs.Reading.{Table, Reading, ReadsFrom, rna_in}
use Rattle.dna_reader.specs.RnaLines.{rna_lines}

-- a command is of at most seven bases
abbrev pub IsCommand : List Base → Type 0
IsCommand command = length command ≤ 7

-- each command that a reading gives is one
abbrev pub GivesCommands : {Item : Type 0} → Table Item → Type 0
GivesCommands {Item} table = (groups : ℕ) (d : List Base) (reading : Reading Item) → ReadsFrom table groups d reading → AllByRecursion IsCommand (rna_in reading)

-- the lines of commands are read as the same commands
abbrev pub LinesAreRead : Type 0
LinesAreRead = (rna : List (List Base)) → commands (rna_lines rna) ≡ rna

-- and none of them is bad
abbrev pub LinesAreGood : Type 0
LinesAreGood = (rna : List (List Base)) → AllByRecursion IsCommand rna → first_bad (rna_lines rna) ≡ None
