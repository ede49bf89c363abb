-- How many of each base a list has.
use Rattle.std.specs.Prelude.{ℕ, ◌+◌, List, [], ◌∷◌}
use Rattle.fuun_base.specs.declared.letters.Base.{Base}
use Rattle.fuun_base.specs.declared.letters.Base.TheVariants.{I, C, F, P}
use Rattle.fuun_base.specs.declared.tally.Tally.{Tally}

-- the counts of a list of one base
abbrev pub tally_of_one : Base → Tally
tally_of_one I = record { i = 1; c = 0; f = 0; p = 0 }
tally_of_one C = record { i = 0; c = 1; f = 0; p = 0 }
tally_of_one F = record { i = 0; c = 0; f = 1; p = 0 }
tally_of_one P = record { i = 0; c = 0; f = 0; p = 1 }

-- the sum of two tallies, base by base
abbrev pub tally_sum : Tally → Tally → Tally
tally_sum s t = record { i = s.i + t.i; c = s.c + t.c; f = s.f + t.f; p = s.p + t.p }

-- how many of each base a list has
abbrev pub tally_of : List Base → Tally
tally_of [] = record { i = 0; c = 0; f = 0; p = 0 }
tally_of (b ∷ d) = tally_sum (tally_of_one b) (tally_of d)

-- how many bases a tally counts in all
abbrev pub tally_total : Tally → ℕ
tally_total t = t.i + t.c + t.f + t.p

-- the tally of a list's quote, by the list's tally
abbrev pub tally_quoted : Tally → Tally
tally_quoted t = record { i = t.p; c = t.i + t.p; f = t.c; p = t.f }
