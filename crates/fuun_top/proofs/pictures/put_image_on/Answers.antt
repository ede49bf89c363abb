use Rattle.std.proofs.Common.{ap, ◌∙◌}
use Rattle.fuun_top.specs.WritingRoom.{status_after}
use Rattle.fuun_top.proofs.WrittenOutput.{image_put}
use Rattle.fuun_top.proofs.pictures.put_image_on.Goals as goal

pub returns-in-Ok-clause-wrote : goal.returns-in-Ok-clause-wrote
returns-in-Ok-clause-wrote g c =
    image_put g.row.SIDE g.row.MAX c.args.profile c.args.machine.now.dna c.args.budget c.args.machine.now.limit c.in-Ok.end c.in-Ok.painter.picture c.top.result.now
    c.write_ppm.result c.status_after.result _ _ _ _ c.in-Ok.ensures.drew c.top.ensures (c.status_after.ensures ∙ ap (status_after c.write_ppm.result) c.run_status.ensures)
    c.write_ppm.ensures.puts c.write_ppm.ensures.cause
