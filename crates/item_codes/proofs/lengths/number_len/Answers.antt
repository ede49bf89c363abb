use Rattle.std.proofs.Common.{◌≡◌, ◌+◌, arith, length}
use Rattle.fuun_base.specs.Quote.{asnat}
use Rattle.item_codes.proofs.NumberLengths.{length-asnat_is}
use Rattle.std.proofs.lemmas.Nat.{leading_length}
use Rattle.item_codes.proofs.lengths.number_len.Goals as goal

pub returns-clause-len : goal.returns-clause-len
returns-clause-len c =
    let digits = leading_length 64 c.args.n c.ranges.n.fits in
    let long : length (asnat c.args.n) ≡ digits.0 + 1 = length-asnat_is digits.0 c.args.n digits.2 digits.3 in
    omega (arith, long, digits.1)
