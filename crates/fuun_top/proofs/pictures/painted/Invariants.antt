use Rattle.std.proofs.Common.{◌≡◌, take}
use Rattle.rna_code.specs.Commands.{act_of}
use Rattle.painter.specs.Picture.{Builds, start}
use Rattle.fuun_top.proofs.pictures.painted.Given as goal

abbrev pub invariant-loop-command : goal.invariant-loop-command
invariant-loop-command g l =
    Builds g.row.SIDE g.row.MAX (act_of l.fn.profile) (take l.command-index l.command-items) (start g.row.SIDE) l.painter.picture
    × (l.painter.profile ≡ l.fn.profile)
    × (l.painter.taken ≡ l.command-index)
