use Rattle.std.proofs.Common.{List, ◌++◌, take}
use Rattle.fuun_base.specs.declared.letters.Base.{Base}
use Rattle.dna_reader.specs.Digits.{HaveRead}
use Rattle.dna_reader.proofs.numerals.Digits.read.Given as goal

abbrev pub invariant-loop-base : goal.invariant-loop-base
invariant-loop-base l = (read : List Base) → HaveRead l.initial.self read → HaveRead l.self (read ++ take l.base-index l.bases)
