use Rattle.std.proofs.Common.{ap, ◌∙◌, sym}
use Rattle.fuun_top.specs.WritingRoom.{status_after}
use Rattle.fuun_top.proofs.WrittenOutput.{dna_put}
use Rattle.fuun_top.proofs.running.put_dna.Goals as goal

pub returns-in-Ok-clause-wrote : goal.returns-in-Ok-clause-wrote
returns-in-Ok-clause-wrote g c =
    let made = c.in-Ok.ensures.run in
    dna_put c.args.machine.now.dna c.args.budget c.args.machine.now.limit made.run c.in-Ok.end _ c.put_letters.result c.status_after.result _ _ _ _
    made.is made.ends (made.dna ∙ sym c.dna.ensures.dna) (c.status_after.ensures ∙ ap (status_after c.put_letters.result) c.run_status.ensures) c.put_letters.ensures.puts c.put_letters.ensures.cause
