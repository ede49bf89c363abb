use Rattle.std.proofs.Common.{◌≡◌, ◌+◌, drop}
use Rattle.assembler.specs.Ahead.{digits_ahead}
use Rattle.assembler.proofs.numbers.digits.Given as goal

abbrev pub invariant-digits : goal.invariant-digits
invariant-digits l = digits_ahead l.n (l.place + 1) (drop l.place l.rest) ≡ digits_ahead l.first 1 l.rest
