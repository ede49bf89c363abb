use Rattle.source_text.proofs.CommandLemmas.{added_more}
use Rattle.source_text.proofs.commands.add_commands.Goals as goal

pub commands-preserved : goal.commands-preserved
commands-preserved c =
    added_more c.args.limit c.commands.letters-index c.args.known.now.items c.commands.known.items c.push.new.self.items c.args.commands.now c.in_ok-held.held _ c.commands-test.true c.commands.invariant
    c.in_ok-push.ensures.items c.in_ok-held.ensures
