use Rattle.std.proofs.Common.{ap}
use Rattle.ppm_out.specs.Ppm.{ppm}
use Rattle.fuun_top.specs.declared.status.Status.TheVariants.{Done}
use Rattle.fuun_top.specs.Output.{IsPictureOf}
use Rattle.fuun_top.proofs.WrittenOutput.{output_put}
use Rattle.fuun_top.proofs.pictures.put_picture.Goals as goal

pub returns-in-Ok : goal.returns-in-Ok
returns-in-Ok g c =
    output_put (IsPictureOf g.row.SIDE g.row.MAX c.args.profile c.args.commands.now Done)
    (record { status = Done; bytes = ppm g.row.SIDE c.top.result.now }) c.write_ppm.result c.status_after.result _ _ _ _
    (record { picture = c.in-Ok.painter.picture; builds = c.in-Ok.ensures; is = ap (λ top. record { status = Done; bytes = ppm g.row.SIDE top }) c.top.ensures })
    c.status_after.ensures c.write_ppm.ensures.puts c.write_ppm.ensures.cause
