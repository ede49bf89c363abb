use Rattle.std.proofs.Common.{◌≡◌, take}
use Rattle.source_items.proofs.sums.copied_sum.Given as goal

abbrev pub invariant-products : goal.invariant-products
invariant-products l = l.copy ≡ take l.product-index l.products
