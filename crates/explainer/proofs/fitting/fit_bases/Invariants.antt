use Rattle.std.proofs.Common.{◌≡◌, take}
use Rattle.explainer.proofs.fitting.fit_bases.Given as goal

abbrev pub invariant-loop-at : goal.invariant-loop-at
invariant-loop-at l = take l.at l.seen ≡ take l.at l.bases
