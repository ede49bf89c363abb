use Rattle.std.proofs.Common.{take}
use Rattle.source_text.specs.Keeping.{AreAdded}
use Rattle.source_text.proofs.commands.add_commands.Given as goal

abbrev pub invariant-commands : goal.invariant-commands
invariant-commands l = AreAdded l.limit l.fn.known.items (take l.letters-index l.commands) l.known.items
