use Rattle.fuun_top.proofs.WrittenOutput.{summary_put}
use Rattle.fuun_top.proofs.bench.put_bench.Goals as goal

pub returns-in-Ok-clause-wrote : goal.returns-in-Ok-clause-wrote
returns-in-Ok-clause-wrote g c =
    summary_put c.args.seed c.args.size c.args.rounds c.in-Ok.summary c.put_summary.result c.status_after.result _ _ _ _
    c.in-Ok.ensures.sums c.status_after.ensures c.put_summary.ensures.puts c.put_summary.ensures.cause
