use Rattle.std.proofs.Common.{ap, sym, ◌∙◌, option_copied}
use Rattle.sym_strand.proofs.Tidy.{seam_ok}
use Rattle.sym_strand.proofs.joining.seam.Goals as goal

pub returns : goal.returns
returns c =
    seam_ok c.args.segs.now c.args.more.now c.in-Some.last.now c.in-Some-first.first.now c.joint.result c.requires.tidy c.requires.more
    (sym c.last.ensures.value ∙ ap option_copied c.in-Some.is) (sym c.first.ensures.value ∙ ap option_copied c.in-Some-first.is) c.joint.ensures
