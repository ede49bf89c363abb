-- What is seen of a window on a strand.
use Rattle.std.specs.Prelude.{ℕ, List}
use Rattle.fuun_base.specs.declared.letters.Base.{Base}

-- a place, the length of the strand, and the bases that are copied out from that place on
pub record View : Type 0 where
  pub place : ℕ
  pub len : ℕ
  pub ahead : List Base
