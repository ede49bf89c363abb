use Rattle.std.proofs.Common.{◌+◌, ◌-◌, length}
use Rattle.replacer.specs.Cuts.{AreCuts}
use Rattle.replacer.proofs.cuts.Cuts.keep.Given as goal

abbrev pub invariant-loop-self : goal.invariant-loop-self
invariant-loop-self g l =
    AreCuts g.S.Strand.bases g.S.Strand.height g.S.Strand.height_bound g.texts l.self.made.items

abbrev pub decreases-loop-self : goal.decreases-loop-self
decreases-loop-self g l = l.n + 1 - length l.self.made.items
