use Rattle.std.proofs.Common.{◌≡◌, ◌+◌, length, drop}
use Rattle.dna_items.specs.Held.{held}
use Rattle.dna_reader.specs.Codes.{template_code}
use Rattle.source_code.proofs.lengths.template_len.Given as goal

abbrev pub invariant-loop-item : goal.invariant-loop-item
invariant-loop-item l = record {
  rest : held (l.len + length (template_code (drop l.item-index l.items))) ≡ held (length (template_code l.items));
  itself : held l.len ≡ l.len;
}
