use Rattle.fuun_top.proofs.WrittenOutput.{trace_put}
use Rattle.fuun_top.proofs.traced.put_trace.Goals as goal

pub returns-in-Ok-clause-wrote : goal.returns-in-Ok-clause-wrote
returns-in-Ok-clause-wrote g c =
    trace_put c.in-Ok.machine c.trace.new.machine c.args.dna c.args.budget c.args.limit c.trace.result c.trace_status.result _ _ _ _ c.in-Ok.ensures.dna c.in-Ok.ensures.limit
    c.trace.ensures.traced c.trace.ensures.fault c.trace.ensures.no_fault c.trace_status.ensures
