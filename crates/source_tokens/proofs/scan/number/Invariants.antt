use Rattle.std.proofs.Common.{◌≡◌, ◌^◌, min, take}
use Rattle.source_tokens.specs.Words.{number_of}
use Rattle.source_tokens.proofs.scan.number.Given as goal

abbrev pub invariant-digits : goal.invariant-digits
invariant-digits l = l.n ≡ min (number_of (take l.digit-index l.digits)) (2 ^ 63)
