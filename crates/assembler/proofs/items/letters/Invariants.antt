use Rattle.std.proofs.Common.{◌≡◌, drop}
use Rattle.assembler.specs.Ahead.{letters_ahead}
use Rattle.assembler.proofs.Steps.{with_front}
use Rattle.assembler.proofs.items.letters.Given as goal

abbrev pub invariant-letters : goal.invariant-letters
invariant-letters l = with_front l.bases l.place (letters_ahead (drop l.place l.bytes)) ≡ letters_ahead l.bytes
