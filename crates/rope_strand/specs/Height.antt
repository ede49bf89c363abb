-- The height of a rope against its length.
use Rattle.std.specs.Prelude.{ℕ, ◌*◌, ◌≤◌}
use Rattle.std.proofs.Common.{arith}
use Rattle.fuun_base.specs.Quote.{bits}
use Rattle.fuun_base.specs.Digits.{bits_rise}

-- more bases never have a lesser bound
pub bound_rises : (m n : ℕ) → m ≤ n → 2 * bits m ≤ 2 * bits n
bound_rises m n order = omega (arith, bits_rise m n order)
