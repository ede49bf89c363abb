-- What holds of every list's tally.
use Rattle.std.specs.Prelude.{◌≡◌, List, ◌++◌, length}
use Rattle.fuun_base.specs.declared.letters.Base.{Base}
use Rattle.fuun_base.specs.Tally.{tally_of, tally_sum, tally_total}

-- the tally of joined lists is the sum of their tallies
abbrev pub TallyOfJoined : Type 0
TallyOfJoined = (a b : List Base) → tally_of (a ++ b) ≡ tally_sum (tally_of a) (tally_of b)

-- a tally counts each base of the list once
abbrev pub TallyOfAll : Type 0
TallyOfAll = (d : List Base) → tally_total (tally_of d) ≡ length d
