use Rattle.std.proofs.Common.{◌≡◌, ◌≤◌, take, length}
use Rattle.std.specs.List.{flat_map}
use Rattle.explainer.specs.Making.{cells_of}
use Rattle.explainer.specs.Replacement.{put_by}
use Rattle.explainer.proofs.replacing.replace.Given as goal

abbrev pub invariant-loop-item : goal.invariant-loop-item
invariant-loop-item g l = record {
  same : l.texts ≡ l.fn.texts;
  cells : cells_of l.front ≡ flat_map (put_by l.fn.texts) (take l.item-index l.items);
  within : length (cells_of l.front) ≤ l.most;
}
