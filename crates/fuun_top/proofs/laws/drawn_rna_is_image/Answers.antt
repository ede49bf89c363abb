use Rattle.fuun_top.proofs.ChainedDrawing as drawing
use Rattle.fuun_top.proofs.laws.drawn_rna_is_image.Goals as goal

pub returns-clause-whole : goal.returns-clause-whole
returns-clause-whole c = drawing.drawn_rna_is_image

pub returns-clause-parts : goal.returns-clause-parts
returns-clause-parts c = drawing.drawn_parts_are_image
