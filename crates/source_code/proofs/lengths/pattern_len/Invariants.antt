use Rattle.std.proofs.Common.{◌≡◌, ◌+◌, length, drop}
use Rattle.dna_items.specs.Held.{held}
use Rattle.std.specs.List.{list_all}
use Rattle.dna_reader.specs.Codes.{pattern_code}
use Rattle.source_items.specs.Lines.{is_small_item, pattern_of}
use Rattle.source_code.proofs.lengths.pattern_len.Given as goal

abbrev pub invariant-loop-item : goal.invariant-loop-item
invariant-loop-item l = record {
  rest : held (l.len + length (pattern_code (pattern_of l.own l.behind (drop l.item-index l.items)))) ≡ held (length (pattern_code (pattern_of l.own l.behind l.items)));
  itself : held l.len ≡ l.len;
  small : list_all (is_small_item l.own l.behind) (drop l.item-index l.items) ≡ list_all (is_small_item l.own l.behind) l.items;
}
