-- Tallies of parts of joined lists.
use Rattle.std.proofs.Common.{◌≡◌, ◌+◌, ◌^◌, ◌<◌, ◌≤◌, List, length, ap, arith}
use Rattle.fuun_base.specs.declared.letters.Base.{Base}
use Rattle.fuun_base.specs.declared.tally.Tally.{Tally}
use Rattle.fuun_base.specs.Tally.{tally_of, tally_total}
use Rattle.fuun_base.proofs.Counting.{tally_of-append, tally_total-tally_of}
use Rattle.rope_core.proofs.Cuts.{cuts}

pub ruleset counted = (tally_of-append, cuts)

-- two tallies of at most 2^41 bases each can be added
pub tallies_fit : (s t : Tally) (a b : List Base) → s ≡ tally_of a → t ≡ tally_of b → length a ≤ 2 ^ 41 → length b ≤ 2 ^ 41 → tally_total s + tally_total t < 2 ^ 64
tallies_fit s t a b left right few few' =
    omega (arith, ap tally_total left, ap tally_total right, tally_total-tally_of a, tally_total-tally_of b)
