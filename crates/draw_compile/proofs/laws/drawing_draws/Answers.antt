use Rattle.draw_compile.proofs.DrawingLaw.{drawing_draws}
use Rattle.draw_compile.proofs.laws.drawing_draws.Goals as goal

pub returns : goal.returns
returns c = drawing_draws
