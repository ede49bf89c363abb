use Rattle.std.proofs.Common.{◌≡◌, ◌+◌, drop}
use Rattle.dna_items.specs.Held.{held}
use Rattle.source_items.specs.Values.{sum_value}
use Rattle.source_code.proofs.values.sum_value.Given as goal

abbrev pub invariant-loop-product : goal.invariant-loop-product
invariant-loop-product l = record {
  rest : held (l.value + sum_value l.own l.behind (drop l.product-index l.sum)) ≡ held (sum_value l.own l.behind l.sum);
  itself : held l.value ≡ l.value;
}
