use Rattle.std.proofs.Common.{◌+◌, ◌≤◌, length}
use Rattle.assembler.proofs.AnswerLemmas.{IsSoFar}
use Rattle.assembler.proofs.assembling.assemble.Given as goal

abbrev pub invariant-lines : goal.invariant-lines
invariant-lines l = record {
  so_far : IsSoFar l.text l.rest l.number l.bases.items;
  counted : l.number + length l.rest ≤ length l.text + 1;
}

abbrev pub decreases-lines : goal.decreases-lines
decreases-lines l = length l.rest
