-- Lengths and values that were worked out by hand.
use Rattle.std.proofs.Common.{refl}
use Rattle.fuun_base.specs.Quote.{asnat, asnat_from}
use Rattle.source_items.specs.Worked.{LongWorked, OwnLengthWorked, ValuesWorked}

pub own_length_worked : OwnLengthWorked
unfolding asnat asnat_from
own_length_worked = (refl, refl, refl, refl)

pub values_are_worked : ValuesWorked
values_are_worked = (refl, refl, refl, refl, refl)

pub long_is_worked : LongWorked
unfolding asnat asnat_from
long_is_worked = (refl, refl)
