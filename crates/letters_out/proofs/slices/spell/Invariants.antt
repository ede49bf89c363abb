use Rattle.std.proofs.Common.{◌≡◌, ◌++◌, take, drop, map}
use Rattle.fuun_base.specs.Letter.{letter_of}
use Rattle.letters_out.proofs.slices.spell.Given as goal

abbrev pub invariant-loop-index : goal.invariant-loop-index
invariant-loop-index l = l.out ≡ map letter_of (take l.index l.bases) ++ drop l.index l.initial.out
