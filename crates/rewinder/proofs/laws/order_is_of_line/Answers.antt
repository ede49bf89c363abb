use Rattle.rewinder.specs.declared.orders.Order.{Order}
use Rattle.std.proofs.Common.{List, ℕ}
use Rattle.rewinder.proofs.OrderLines.{line_order, order_line}
use Rattle.rewinder.proofs.laws.order_is_of_line.Goals as goal

pub returns : goal.returns
returns c = λ (line : List ℕ) (order : Order). (order_line line order, line_order line order)
