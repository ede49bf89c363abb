use Rattle.std.proofs.Common.{◌-◌, length}
use Rattle.match_text.proofs.PlaceLemmas.{Going}
use Rattle.match_text.proofs.places.places.Given as goal

abbrev pub invariant-items : goal.invariant-items
invariant-items g l = Going (g.T.Strand.bases l.dna) l.from l.items l.places.items l.at

abbrev pub decreases-items : goal.decreases-items
decreases-items g l = length l.items - length l.places.items
