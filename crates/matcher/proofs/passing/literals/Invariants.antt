use Rattle.std.proofs.Common.{◌-◌, ◌≡◌, ◌≤◌, length, take, map}
use Rattle.dna_items.specs.declared.items.PatItem.TheVariants.{Base as Literal}
use Rattle.matcher.proofs.passing.literals.Given as goal

abbrev pub invariant-loop-count : goal.invariant-loop-count
invariant-loop-count l = record {
  long : length l.run ≡ 256;
  fits : l.count ≤ 256;
  within : l.count ≤ length l.items;
  are : take l.count l.items ≡ map Literal (take l.count l.run);
}

abbrev pub decreases-loop-count : goal.decreases-loop-count
decreases-loop-count l = 256 - l.count
