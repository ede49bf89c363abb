use Rattle.std.proofs.Common.{◌≡◌, List, sym, subst, ◌∙◌}
use Rattle.fuun_base.specs.declared.letters.Base.{Base}
use Rattle.picture_in.specs.Pixmap.{IsPicture, Rgb}
use Rattle.draw_compile.specs.Drawing.{drawing}
use Rattle.draw_compile.specs.Law.{Draws}
use Rattle.draw_compile.proofs.DrawingLaw.{drawing_draws}
use Rattle.draw_compile.proofs.compiling.compile_picture.Goals as goal

draws : (picture : List Rgb) (dna : List Base) → IsPicture picture → dna ≡ drawing picture → Draws dna picture
draws picture dna is same = subst (λ d. Draws d picture) (sym same) (drawing_draws picture is)

pub returns-in-Ok-from_vec-clause-draws : goal.returns-in-Ok-from_vec-clause-draws
returns-in-Ok-from_vec-clause-draws c = draws c.args.picture.now c.in-Ok-from_vec.list c.drawing_len-len.ensures.picture (c.in-Ok-from_vec.ensures ∙ c.in-Ok.ensures)
