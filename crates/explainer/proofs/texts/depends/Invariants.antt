use Rattle.std.proofs.Common.{◌≡◌, drop}
use Rattle.explainer.specs.Replacement.{depends_on_target}
use Rattle.explainer.proofs.texts.depends.Given as goal

abbrev pub invariant-loop-item : goal.invariant-loop-item
invariant-loop-item g l = record {
  same : l.texts ≡ l.fn.texts;
  rest : depends_on_target l.fn.texts l.items ≡ depends_on_target l.fn.texts (drop l.item-index l.items);
}
