use Rattle.fuun_top.proofs.StepLemmas.{run_ticked}
use Rattle.fuun_top.proofs.WrittenOutput.{run_wrote}
use Rattle.fuun_top.proofs.output.put_run.Goals as goal

pub returns-in-Ok-clause-wrote : goal.returns-in-Ok-clause-wrote
returns-in-Ok-clause-wrote g c =
    run_wrote c.args.verb c.in-Ok.machine c.args.dna c.args.budget c.args.limit _ _ _ _ _ c.in-Ok.ensures.dna c.in-Ok.ensures.limit c.put_made.ensures.wrote

pub returns-in-Ok-clause-ticks : goal.returns-in-Ok-clause-ticks
returns-in-Ok-clause-ticks g c =
    run_ticked c.in-Ok.machine c.args.dna c.args.budget c.args.limit _ _ _ c.in-Ok.ensures.dna c.in-Ok.ensures.limit c.in-Ok.ensures.ticks c.put_made.ensures.ticks
