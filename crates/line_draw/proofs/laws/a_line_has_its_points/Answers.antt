use Rattle.line_draw.proofs.PointLists.{one_list, points_inside, the_points}
use Rattle.line_draw.proofs.laws.a_line_has_its_points.Goals as goal

pub returns : goal.returns
returns c = record { some = the_points; one = one_list; inside = points_inside }
