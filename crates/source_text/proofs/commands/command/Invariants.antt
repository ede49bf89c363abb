use Rattle.std.proofs.Common.{take}
use Rattle.source_text.specs.Keeping.{IsHeld}
use Rattle.source_text.specs.Names.{letter_pieces}
use Rattle.source_text.proofs.commands.command.Given as goal

abbrev pub invariant-letters : goal.invariant-letters
invariant-letters l = IsHeld l.limit l.held (letter_pieces (take l.letter-index l.letters))
