use Rattle.std.proofs.Common.{◌≡◌, ◌+◌, ◌-◌, ◌≤◌, drop, length}
use Rattle.source_tokens.specs.Statements.{line_scan}
use Rattle.source_tokens.specs.Words.{scan}
use Rattle.source_tokens.proofs.scan.line_tokens.Given as goal

abbrev pub invariant-words : goal.invariant-words
invariant-words l = record {
  within : l.place ≤ length l.line;
  scanned : scan 0 (record { tokens = l.tokens; end = l.end; met = l.names }) (l.at + l.place) (drop l.place l.line) ≡ line_scan l.fn.names l.at l.line;
}

abbrev pub decreases-words : goal.decreases-words
decreases-words l = length l.line - l.place
