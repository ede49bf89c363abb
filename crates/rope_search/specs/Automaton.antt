-- The automaton of a needle: how much of it is found after each base more.
use Rattle.std.specs.Prelude.{◌≡◌, ℕ, ◌+◌, ◌-◌, ◌<◌, ◌≤◌, List, [], length, slice_index, slice_index_or}
use Rattle.fuun_base.specs.declared.letters.Base.{Base}
use Rattle.fuun_base.specs.declared.letters.Base.TheVariants.{I, C, F, P}

-- the first `len` bases of s end its first `found` bases with one base more
pub record Ends (s : List Base) (found : ℕ) (base : Base) (len : ℕ) : Type 0 where
  pub most : len ≤ found + 1
  pub before : (j k : ℕ) → j < found → j + len ≡ found + 1 + k → slice_index_or s j I ≡ slice_index_or s k I
  pub last : (k : ℕ) → k + 1 ≡ len → base ≡ slice_index_or s k I

-- the most of s that is found when a base comes after its first `found` bases
pub record IsNext (s : List Base) (found : ℕ) (base : Base) (next : ℕ) : Type 0 where
  pub ends : Ends s found base next
  pub longest : (len : ℕ) → next < len → Ends s found base len → ⊥

-- the first `back` bases of s are also the last of its first `len`, and no more but all are
pub record IsBorder (s : List Base) (len back : ℕ) : Type 0 where
  pub most : back ≤ len - 1
  pub fits : (j k : ℕ) → j < len → j + back ≡ len + k → slice_index_or s j I ≡ slice_index_or s k I
  pub longest : (more : ℕ) → back < more → more < len
      → ((j k : ℕ) → j < len → j + more ≡ len + k → slice_index_or s j I ≡ slice_index_or s k I) → ⊥

-- where a row keeps what follows each base
abbrev pub column : Base → ℕ
column I = 0
column C = 1
column F = 2
column P = 3

-- the row says for each base what is found with it
abbrev pub IsRow : List Base → ℕ → List ℕ → Type 0
IsRow s found row = (base : Base) → IsNext s found base (slice_index row (column base))

-- there is a right row for each number of bases found, as far as there are rows
abbrev pub AreRows : List Base → List (List ℕ) → Type 0
AreRows s rows = (found : ℕ) → found < length rows → IsRow s found (slice_index_or rows found [])
