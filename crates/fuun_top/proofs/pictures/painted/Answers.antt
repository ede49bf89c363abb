use Rattle.std.proofs.Common.{arith, subst, ◌∙◌}
use Rattle.rna_code.specs.declared.profile.Profile.{Profile}
use Rattle.rna_code.specs.Commands.{act_of}
use Rattle.painter.specs.Picture.{Acts, start}
use Rattle.fuun_top.proofs.DrawingLemmas.{builds_more}
use Rattle.fuun_top.proofs.pictures.painted.Goals as goal

pub loop-command-preserved : goal.loop-command-preserved
loop-command-preserved g c =
    let acts =
    subst (λ (profile : Profile). Acts g.row.SIDE g.row.MAX (act_of profile) c.command-item.result c.loop-command.painter.picture c.paint.new.self.picture)
    c.loop-command.invariant.1 c.paint.ensures.acts in (
      builds_more g.row.SIDE g.row.MAX (act_of c.args.profile) c.as_slice-command-items.result.now c.loop-command.command-index c.command-item.result (start g.row.SIDE)
          c.loop-command.painter.picture c.paint.new.self.picture c.loop-command-test.true c.command-item.is c.loop-command.invariant.0 acts,
      c.paint.ensures.profile ∙ c.loop-command.invariant.1,
      omega (arith, c.paint.ensures.taken, c.loop-command.invariant.2),
    )
