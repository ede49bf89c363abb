use Rattle.painter.proofs.Pictures.{start_is_picture}
use Rattle.painter.proofs.laws.start_is_a_picture.Goals as goal

pub returns : goal.returns
returns c = start_is_picture
