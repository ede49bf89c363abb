use Rattle.std.proofs.Common.{arith}
use Rattle.source_items.proofs.HeldLemmas.{held_most}
use Rattle.source_code.proofs.settling.lengths.Goals as goal

pub push-requires : goal.push-requires
push-requires c = let found = c.in-Some.ensures in omega (arith, found.as_held, held_most found.own)
