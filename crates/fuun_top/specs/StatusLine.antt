-- The number and the line of a status.
use Rattle.std.specs.Prelude.{ℕ, List, [], ◌∷◌, ◌++◌, codes, decimal}
use Rattle.fuun_top.specs.declared.status.InFile.{InFile}
use Rattle.fuun_top.specs.declared.status.InFile.TheVariants.{Dna, Prefix, Rna, Patch, Text, Script, Ppm, Source}
use Rattle.fuun_top.specs.declared.status.Status.{Status}
use Rattle.fuun_top.specs.declared.status.Status.TheVariants.{Done, Usage, OutOfBudget, TooLong, BadBase, BadRna, BadToml, BadPatch, Outside, InputTooLong, ReadFault, WriteFault, NoMemory, StartTooLong, BadText, Unreadable, Depends, BadScript, BadPpm, BadSource, BadName, BadNumber, NoCode}

-- the name of a file that the words name
abbrev pub file_name : InFile → List ℕ
file_name Dna = codes "dna"
file_name Prefix = codes "prefix"
file_name Rna = codes "rna"
file_name Patch = codes "patch"
file_name Text = codes "text"
file_name Script = codes "script"
file_name Ppm = codes "ppm"
file_name Source = codes "source"

-- the exit status
abbrev pub number_of : Status → ℕ
number_of Done = 0
number_of Usage = 2
number_of OutOfBudget = 3
number_of (TooLong attempt) = 4
number_of (BadBase file place) = 5
number_of (BadRna line) = 6
number_of BadToml = 7
number_of (BadPatch number) = 8
number_of (Outside number) = 9
number_of (InputTooLong file) = 10
number_of ReadFault = 11
number_of WriteFault = 12
number_of NoMemory = 13
number_of StartTooLong = 14
number_of (BadText number) = 15
number_of (Unreadable number) = 16
number_of (Depends attempt) = 17
number_of (BadScript number) = 18
number_of BadPpm = 19
number_of (BadSource number column) = 20
number_of (BadName number column) = 21
number_of (BadNumber number column) = 22
number_of (NoCode number column) = 23

-- a line on standard error
abbrev pub line : List ℕ → List ℕ
line text = codes "fuun: " ++ text ++ 10 ∷ []

-- the line that tells of a place of the source
abbrev pub placed_line : ℕ → ℕ → List ℕ → List ℕ
placed_line number column text = line (codes "source: line " ++ decimal number ++ codes ", column " ++ decimal column ++ text)

-- what is written of a status: no byte for Done, else its line
abbrev pub status_line : Status → List ℕ
status_line Done = []
status_line Usage = line (codes "usage")
status_line OutOfBudget = line (codes "out of budget")
status_line (TooLong attempt) = line (codes "too long at attempt " ++ decimal attempt)
status_line (BadBase file place) = line (file_name file ++ codes ": byte " ++ decimal place ++ codes " is not a base")
status_line (BadRna number) = line (codes "rna: line " ++ decimal number ++ codes " is not a command")
status_line BadToml = line (codes "patch: not a TOML document")
status_line (BadPatch number) = line (codes "patch: row " ++ decimal number ++ codes " is refused")
status_line (Outside number) = line (codes "patch: row " ++ decimal number ++ codes " is outside the length")
status_line (InputTooLong file) = line (file_name file ++ codes ": too long")
status_line ReadFault = line (codes "read fault")
status_line WriteFault = line (codes "write fault")
status_line NoMemory = line (codes "no memory")
status_line StartTooLong = line (codes "start too long")
status_line (BadText number) = line (codes "text: line " ++ decimal number ++ codes " is not a pair")
status_line (Unreadable number) = line (codes "text: line " ++ decimal number ++ codes " has no DNA")
status_line (Depends attempt) = line (codes "attempt " ++ decimal attempt ++ codes " depends on the target")
status_line (BadScript number) = line (codes "script: line " ++ decimal number ++ codes " is refused")
status_line BadPpm = line (codes "ppm: refused")
status_line (BadSource number column) = placed_line number column (codes ": out of form")
status_line (BadName number column) = placed_line number column (codes ": a name that does not serve")
status_line (BadNumber number column) = placed_line number column (codes ": 2^63 or more")
status_line (NoCode number column) = placed_line number column (codes ": no DNA has this pattern")
