-- What an RNA file stands for.
use Rattle.std.specs.Prelude.{ℕ, ◌&&◌, ◌||◌, Bool, List, Option, length, map, not, nat_le}
use Rattle.std.specs.List.{list_all, filter_map, position_from}
use Rattle.fuun_base.specs.declared.letters.Base.{Base}
use Rattle.fuun_base.specs.Letter.{base_of, is_letter, is_blank}
use Rattle.fuun_base.specs.Lines.{lines}

-- the command of a line: the bases of its letters, in order
abbrev pub command_of : List ℕ → List Base
command_of line = filter_map base_of line

-- a byte is a letter of a base or a blank
abbrev pub is_allowed : ℕ → Bool
is_allowed byte = is_letter byte || is_blank byte

-- a line holds at most seven letters, and blanks
abbrev pub is_command : List ℕ → Bool
is_command line = list_all is_allowed line && nat_le (length (command_of line)) 7

-- the commands of an RNA file, one a line
abbrev pub commands : List ℕ → List (List Base)
commands bytes = map command_of (lines bytes)

-- the first line, counted from 1, that is no command
abbrev pub first_bad : List ℕ → Option ℕ
first_bad bytes = position_from (λ line. not (is_command line)) 1 (lines bytes)
