use Rattle.fuun_top.proofs.StepLemmas.{rewind_not_started, rewind_ticked}
use Rattle.fuun_top.proofs.WrittenOutput.{rewind_put}
use Rattle.fuun_top.proofs.rewound.put_rewound.Goals as goal

pub returns-in-Ok-clause-wrote : goal.returns-in-Ok-clause-wrote
returns-in-Ok-clause-wrote g c =
    rewind_put c.in-Ok.rewinder c.obey_all.new.self c.args.dna c.args.orders.now c.args.limit c.obey_all.result c.rewind_status.result _ _ _ _
    c.in-Ok.ensures.made c.obey_all.ensures.commanded c.obey_all.ensures.fault c.obey_all.ensures.no_fault c.rewind_status.ensures

pub returns-in-Ok-clause-ticks : goal.returns-in-Ok-clause-ticks
returns-in-Ok-clause-ticks g c =
    rewind_ticked c.in-Ok.rewinder c.args.dna c.args.orders.now c.args.limit _ _ _ c.in-Ok.ensures.made c.in-Ok.ensures.ticks c.obey_all.ensures.ticks

pub returns-in-Err-clause-ticks : goal.returns-in-Err-clause-ticks
returns-in-Err-clause-ticks g c = rewind_not_started c.args.dna c.args.orders.now c.args.limit _ _ c.in-Err.ensures.ticks
