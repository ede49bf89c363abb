use Rattle.std.proofs.Common.{◌≡◌, ◌*◌, drop}
use Rattle.dna_items.specs.Held.{held}
use Rattle.source_items.specs.Values.{product_value}
use Rattle.source_code.proofs.values.product_value.Given as goal

abbrev pub invariant-loop-factor : goal.invariant-loop-factor
invariant-loop-factor l = record {
  rest : held (l.value * product_value l.own l.behind (drop l.factor-index l.product)) ≡ held (product_value l.own l.behind l.product);
  itself : held l.value ≡ l.value;
}
