-- The machine between two attempts.
use Rattle.std.specs.Prelude.{ℕ, ◌^◌, ◌≤◌, List, length}
use Rattle.fuun_base.specs.declared.letters.Base.{Base}

-- the DNA, and the limit on its length
pub record State : Type 0 where
  pub dna : List Base
  pub limit : ℕ

-- the limit is one that a machine may have, and the DNA is within it
pub record IsLimited (state : State) : Type 0 where
  pub some : 1 ≤ state.limit
  pub most : state.limit ≤ 2 ^ 40
  pub within : length state.dna ≤ state.limit
