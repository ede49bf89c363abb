use Rattle.painter.proofs.Outcomes.{builds_once}
use Rattle.painter.proofs.Pictures.{builds_always}
use Rattle.painter.proofs.laws.commands_build_one_picture.Goals as goal

pub returns : goal.returns
returns c = record { some = builds_always; one = builds_once }
