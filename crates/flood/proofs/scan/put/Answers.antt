use Rattle.std.proofs.Common.{arith, lit<}
use Rattle.flood.proofs.Rows.{list_longer, run_left}
use Rattle.flood.proofs.scan.put.Goals as goal

pub push-requires : goal.push-requires
push-requires g c =
    let less = run_left _ _ _ _ _ c.args.spot c.run_at-run.result c.requires.differ c.run_at-run.ensures.square c.run_at-run.ensures.run c.fill_row.ensures.value in
    (lit< tt, (c.run_at-run.ensures.run.is_span, omega (arith, less, c.requires.room)))

pub returns-clause-left : goal.returns-clause-left
returns-clause-left g c =
    let less = run_left _ _ _ _ _ c.args.spot c.run_at-run.result c.requires.differ c.run_at-run.ensures.square c.run_at-run.ensures.run c.fill_row.ensures.value in
    list_longer _ _ _ _ _ c.run_at-run.result less c.push.ensures
