use Rattle.painter.proofs.Outcomes.{acts_once}
use Rattle.painter.proofs.Pictures.{acts_always}
use Rattle.painter.proofs.laws.an_act_has_one_outcome.Goals as goal

pub returns : goal.returns
returns c = record { some = acts_always; one = acts_once }
