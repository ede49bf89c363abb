use Rattle.std.proofs.Common.{All}
use Rattle.matcher.specs.Found.{LiesWithin}
use Rattle.replacer.proofs.tests.groups_within.Given as goal

abbrev pub invariant-loop-range : goal.invariant-loop-range
invariant-loop-range l = All (LiesWithin l.len) l.groups
