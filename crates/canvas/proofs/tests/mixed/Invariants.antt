use Rattle.std.proofs.Common.{◌≡◌, length}
use Rattle.canvas.proofs.tests.mixed.Given as goal

abbrev pub invariant-kinds : goal.invariant-kinds
invariant-kinds l = length l.bucket ≡ l.count

abbrev pub invariant-times : goal.invariant-times
invariant-times l = length l.bucket ≡ l.count
