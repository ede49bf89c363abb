use Rattle.std.proofs.Common.{◌+◌, ◌*◌, ◌≤◌, length}
use Rattle.source_text.specs.Keeping.{AreKnown}
use Rattle.source_text.specs.Names.{Names}
use Rattle.source_text.specs.Sequences.{inside_at}
use Rattle.source_text.proofs.SequenceLemmas.{PartsFound, TemplatesFound, rank}
use Rattle.source_text.proofs.sequences.+sequence.Given as goal

abbrev pub decreases-sequence : goal.decreases-sequence
decreases-sequence l = 30 * l.depth + rank l.kind + 10

abbrev pub decreases-part : goal.decreases-part
decreases-part l = 30 * l.depth + rank l.kind + 9

abbrev pub decreases-once : goal.decreases-once
decreases-once l = 30 * l.depth + rank l.kind + 8

abbrev pub decreases-common_part : goal.decreases-common_part
decreases-common_part l = 30 * l.depth + rank l.kind + 7

abbrev pub decreases-own_part : goal.decreases-own_part
decreases-own_part l = 30 * l.depth + rank l.kind + 6

abbrev pub decreases-pattern_part : goal.decreases-pattern_part
decreases-pattern_part l = 30 * l.depth + 15

abbrev pub decreases-search_part : goal.decreases-search_part
decreases-search_part l = 30 * l.depth + 14

abbrev pub decreases-name_part : goal.decreases-name_part
decreases-name_part l = 30 * l.depth + rank l.kind + 6

abbrev pub decreases-bracket : goal.decreases-bracket
decreases-bracket l = 30 * l.depth + rank l.kind + 6

abbrev pub decreases-arguments : goal.decreases-arguments
decreases-arguments l = 30 * l.depth + 5

abbrev pub decreases-inside : goal.decreases-inside
decreases-inside l = 30 * l.depth

abbrev pub invariant-sequence-parts : goal.invariant-sequence-parts
invariant-sequence-parts l = record {
  within : length l.rest ≤ length l.tokens;
  found : (names : Names) → AreKnown l.scope.limit l.scope.known.now names → PartsFound names l.scope.line (inside_at names l.scope.line l.depth) l.scope.limit l.kind l.tokens l.found l.rest;
}

abbrev pub decreases-sequence-parts : goal.decreases-sequence-parts
decreases-sequence-parts l = length l.rest

abbrev pub invariant-arguments-templates : goal.invariant-arguments-templates
invariant-arguments-templates l = record {
  within : length l.rest ≤ length l.tokens;
  found : (names : Names) → AreKnown l.scope.limit l.scope.known.now names → TemplatesFound names l.scope.line (inside_at names l.scope.line l.depth) l.scope.limit l.tokens l.given l.rest;
}

abbrev pub decreases-arguments-templates : goal.decreases-arguments-templates
decreases-arguments-templates l = length l.rest
