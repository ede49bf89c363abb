use Rattle.std.proofs.Common.{◌-◌, length}
use Rattle.matcher.proofs.Reached.{Reached}
use Rattle.matcher.proofs.matching.match_at.Given as goal

abbrev pub invariant-loop-next : goal.invariant-loop-next
invariant-loop-next g l = Reached (g.S.Strand.bases l.s) l.items-2 l.place l.next l.at l.marks.starts.items l.marks.ended.items

abbrev pub decreases-loop-next : goal.decreases-loop-next
decreases-loop-next g l = length l.items-2 - l.next
