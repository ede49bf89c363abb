-- What a DNA file stands for.
use Rattle.std.specs.Prelude.{◌≡◌, ℕ, ◌<◌, ◌≤◌, ◌==◌, ◌||◌, Bool, true, false, List, Option, length, not, position, slice_index_or}
use Rattle.std.specs.List.{filter_map}
use Rattle.fuun_base.specs.declared.letters.Base.{Base}
use Rattle.fuun_base.specs.Letter.{base_of, is_letter, is_blank}

-- space, tab, carriage return and line feed
abbrev pub is_skipped : ℕ → Bool
is_skipped byte = is_blank byte || byte == 10

-- a byte is neither a letter of a base nor skipped
abbrev pub is_other : ℕ → Bool
is_other byte = not (is_letter byte || is_skipped byte)

-- the bases of a DNA file: those of its letters, in order
abbrev pub bases : List ℕ → List Base
bases bytes = filter_map base_of bytes

-- the place of the first byte that is neither a letter nor skipped
abbrev pub first_other : List ℕ → Option ℕ
first_other bytes = position is_other bytes

-- so many bytes at the front are letters or skipped, and the next one, if there is one, is neither
pub record IsDnaFront (bytes : List ℕ) (count : ℕ) : Type 0 where
  pub within : count ≤ length bytes
  pub clean : (k : ℕ) → k < count → is_other (slice_index_or bytes k 0) ≡ false
  pub stops : count < length bytes → is_other (slice_index_or bytes count 0) ≡ true
