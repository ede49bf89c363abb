use Rattle.std.proofs.Common.{◌-◌, ◌^◌}
use Rattle.source_code.proofs.Climb.{Climbs}
use Rattle.source_code.proofs.lengths.own_len.Given as goal

abbrev pub invariant-loop-len : goal.invariant-loop-len
invariant-loop-len l = Climbs l.behind l.line l.own

abbrev pub decreases-loop-len : goal.decreases-loop-len
decreases-loop-len l = 2 ^ 63 - l.own
