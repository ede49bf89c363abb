-- What a folder and a sink in memory hold. Their calls are numbered from 0.
use Rattle.std.specs.Prelude.{ℕ, ◌-◌, min, Bool, ◌||◌, ◌==◌, List, length, Option, is_none, find, bytes_eq}
use Rattle.std.specs.Option.{option_map}
use Rattle.std.specs.List.{list_any}

-- the files by name and contents, the newest first; the calls that are to fail, and how many were made; the counts
pub record Shelf : Type 0 where
  pub files : List (List ℕ × List ℕ)
  pub failing : List ℕ
  pub calls : ℕ
  pub faults : ℕ
  pub given : ℕ

-- the contents of the newest file of a name
abbrev pub told : List (List ℕ × List ℕ) → List ℕ → Option (List ℕ)
told files name = option_map (λ file. file.1) (find (λ file. bytes_eq file.0 name) files)

-- the call of this number is to fail
abbrev pub is_failing : List ℕ → ℕ → Bool
is_failing failing call = list_any (λ listed. listed == call) failing

-- a read of this name fails now
abbrev pub read_fails : Shelf → List ℕ → Bool
read_fails shelf name = is_failing shelf.failing shelf.calls || is_none (told shelf.files name)

-- the bytes, and for how many there is room in all; the most that one call takes; the calls that are to fail, and how many were made
pub record Page : Type 0 where
  pub text : List ℕ
  pub room : ℕ
  pub most : ℕ
  pub failing : List ℕ
  pub calls : ℕ
  pub faults : ℕ

-- how many bytes a write takes of so many, if it does not fail
abbrev pub taken : Page → ℕ → ℕ
taken page count = min count (min page.most (page.room - length page.text))

-- a write of so many bytes fails now
abbrev pub write_fails : Page → ℕ → Bool
write_fails page count = is_failing page.failing page.calls || (taken page count == 0)
