use Rattle.std.proofs.Common.{Err, ap}
use Rattle.fuun_top.proofs.LoadLemmas.{none_outside}
use Rattle.fuun_top.proofs.bench.prefix_of.Goals as goal

pub unreachable-requires : goal.unreachable-requires
unreachable-requires c =
    none_outside c.args.patches.now c.in-Err-Outside.field-0-0 c.requires.fit (c.in-Err-Outside.ensures.outside c.in-Err-Outside.field-0-0 (ap Err c.in-Err-Outside.field-0-is))
