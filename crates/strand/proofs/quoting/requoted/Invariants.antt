use Rattle.std.proofs.Common.{◌≡◌}
use Rattle.fuun_base.specs.Quote.{protect}
use Rattle.strand.proofs.quoting.requoted.Given as goal

abbrev pub invariant-loop-done : goal.invariant-loop-done
invariant-loop-done l = l.quoted.items ≡ protect l.done l.fn.list.items
