use Rattle.std.proofs.Common.{◌≡◌, ◌++◌, take}
use Rattle.dna_reader.specs.Codes.{pattern_code}
use Rattle.item_codes.proofs.pattern.put_pattern.Given as goal

abbrev pub invariant-loop-item : goal.invariant-loop-item
invariant-loop-item l = l.out.items ≡ l.fn.out.items ++ pattern_code (take l.item-index l.item-items)
