use Rattle.std.proofs.Common.{◌≡◌, ◌++◌, true, drop}
use Rattle.std.specs.List.{list_all}
use Rattle.dna_reader.specs.Codes.{pattern_code}
use Rattle.source_items.specs.Lines.{is_small_item, pattern_of}
use Rattle.source_code.proofs.putting.put_pattern.Given as goal

abbrev pub invariant-loop-item : goal.invariant-loop-item
invariant-loop-item l = record {
  rest : l.out.items ++ pattern_code (pattern_of l.own l.behind (drop l.item-index l.items)) ≡ l.fn.out.items ++ pattern_code (pattern_of l.own l.behind l.items);
  small : list_all (is_small_item l.own l.behind) (drop l.item-index l.items) ≡ true;
}
