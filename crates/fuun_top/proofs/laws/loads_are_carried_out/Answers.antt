use Rattle.fuun_top.proofs.CarriedLoads as loads
use Rattle.fuun_top.proofs.laws.loads_are_carried_out.Goals as goal

pub returns-clause-run : goal.returns-clause-run
returns-clause-run c = loads.loads_are_carried_out

pub returns-clause-summary : goal.returns-clause-summary
returns-clause-summary c = loads.loads_are_summed_up
