-- Levels of quoting.
use Rattle.std.proofs.Common.{◌≡◌, ℕ, zero, suc, ◌-◌, ◌<◌, List, [], ◌∷◌, length, arith, refl}
use Rattle.fuun_base.specs.declared.letters.Base.{Base}
use Rattle.fuun_base.specs.Quote.{quote, protect}
use Rattle.fuun_base.proofs.QuoteLemmas.{protect_of-nil}

pub protect_zero : (d : List Base) → protect 0 d ≡ d
unfolding protect
protect_zero d = refl

pub protect_first : (level : ℕ) (d : List Base) → 0 < level → protect level d ≡ protect (level - 1) (quote d)
unfolding protect
protect_first zero d above = absurd (omega arith)
protect_first (suc level) d above = let e : suc level - 1 ≡ level = omega arith in rw e refl

pub protect_of_none : (level : ℕ) (d : List Base) → length d ≡ 0 → protect level d ≡ d
protect_of_none level [] none = protect_of-nil level
protect_of_none level (b ∷ d) none = absurd (omega arith)
