use Rattle.rope_core.proofs.RopeRoots.{rope_of_tree}
use Rattle.rope_core.proofs.rope.Rope.of.Goals as goal

pub returns-clause-rope : goal.returns-clause-rope
returns-clause-rope c = rope_of_tree _ c.requires.tree c.requires.most
