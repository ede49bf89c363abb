use Rattle.std.proofs.Common.{◌-◌, ◌≤◌, length}
use Rattle.assembler.specs.Ahead.{template_item_ahead}
use Rattle.assembler.proofs.Readers.{GoesOn}
use Rattle.assembler.proofs.pairs.read_template.Given as goal

abbrev pub invariant-items : goal.invariant-items
invariant-items l = record {
  within : l.place ≤ length l.bytes;
  goes_on : GoesOn template_item_ahead l.bytes l.items l.place;
}

abbrev pub decreases-items : goal.decreases-items
decreases-items l = length l.bytes - l.place
