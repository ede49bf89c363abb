use Rattle.std.proofs.Common.{◌≡◌, ◌++◌, take}
use Rattle.dna_reader.specs.Codes.{template_code}
use Rattle.item_codes.proofs.template.put_template.Given as goal

abbrev pub invariant-loop-item : goal.invariant-loop-item
invariant-loop-item l = l.out.items ≡ l.fn.out.items ++ template_code (take l.item-index l.item-items)
