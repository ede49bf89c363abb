use Rattle.line_draw.proofs.Drawn.{a_line}
use Rattle.line_draw.proofs.Points.{one_line}
use Rattle.line_draw.proofs.laws.a_line_has_one_outcome.Goals as goal

pub returns : goal.returns
returns c = record { some = a_line; one = one_line }
