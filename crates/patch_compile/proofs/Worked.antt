-- The prefixes that were worked out by hand.
use Rattle.std.proofs.Common.{refl}
use Rattle.fuun_base.specs.Quote.{asnat, asnat_from}
use Rattle.patch_compile.specs.Worked.{EditWorked, TwoEditsWorked, MoveWorked, CopyWorked}

pub edit_worked : EditWorked
unfolding asnat asnat_from
edit_worked = record { prefix = refl; leaves = refl }

pub two_edits_worked : TwoEditsWorked
unfolding asnat asnat_from
two_edits_worked = record { prefix = refl; leaves = refl }

pub move_worked : MoveWorked
unfolding asnat asnat_from
move_worked = record { prefix = refl; leaves = refl }

pub copy_worked : CopyWorked
unfolding asnat asnat_from
copy_worked = record { prefix = refl; leaves = refl }
