use Rattle.std.proofs.Common.{◌≡◌, ◌-◌, ◌≤◌, length}
use Rattle.source_tokens.specs.Statements.{statements_from}
use Rattle.source_tokens.proofs.statements.next_from.Given as goal

abbrev pub invariant-lines : goal.invariant-lines
invariant-lines l = record {
  within : l.place ≤ length l.text;
  left : statements_from l.fn.names l.start l.text ≡ statements_from l.names l.place l.text;
}

abbrev pub decreases-lines : goal.decreases-lines
decreases-lines l = length l.text - l.place
