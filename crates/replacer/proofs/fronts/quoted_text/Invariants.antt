use Rattle.std.proofs.Common.{◌≡◌, ◌≤◌}
use Rattle.fuun_base.specs.Quote.{protect}
use Rattle.replacer.proofs.fronts.quoted_text.Given as goal

abbrev pub invariant-loop : goal.invariant-loop
invariant-loop l = record {
  some : 1 ≤ l.counter;
  most : l.counter ≤ l.level;
  is : l.quoted.items ≡ protect l.counter l.text;
}
