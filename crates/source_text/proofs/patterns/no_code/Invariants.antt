use Rattle.std.proofs.Common.{◌≡◌, ◌≤◌, drop, false}
use Rattle.source_text.specs.Judging.{no_code}
use Rattle.source_text.proofs.patterns.no_code.Given as goal

abbrev pub invariant-pieces : goal.invariant-pieces
invariant-pieces l = record {
  few : l.groups ≤ l.piece-index;
  same : no_code l.arrow l.groups l.search (drop l.piece-index l.pieces) ≡ no_code l.arrow 0 false l.pieces;
}
