use Rattle.fuun_top.specs.Output.{picture_side, most_layers}
use Rattle.fuun_top.proofs.pictures.put_drawing.Goals as goal

pub returns-in-Plain : goal.returns-in-Plain
unfolding picture_side most_layers
returns-in-Plain g c = rw c.in-Plain.is (rw c.in-Plain.is at c.put_picture.ensures)

pub returns-in-Wide : goal.returns-in-Wide
unfolding picture_side most_layers
returns-in-Wide g c = rw c.in-Wide.is (rw c.in-Wide.is at c.put_picture-in-Wide.ensures)
