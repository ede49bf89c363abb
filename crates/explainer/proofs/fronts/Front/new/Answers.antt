use Rattle.std.proofs.Common.{◌++◌, map, ap, ◌∙◌}
use Rattle.sym_strand.specs.Cells.{places_from}
use Rattle.sym_strand.specs.declared.cells.Cell.TheVariants.{Known}
use Rattle.explainer.proofs.fronts.Front.new.Goals as goal

pub returns : goal.returns
unfolding places_from
returns c = ap (λ z. z ++ map Known c.new.result.items) c.in_ok-empty.ensures ∙ ap (λ l. map Known l) c.new.ensures.items
