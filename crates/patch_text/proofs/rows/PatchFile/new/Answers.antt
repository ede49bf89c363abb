use Rattle.std.proofs.Common.{refl}
use Rattle.patch_text.proofs.Bounds.{bounded_none}
use Rattle.patch_text.proofs.rows.PatchFile.new.Goals as goal

pub invariant_of-result : goal.invariant_of-result
invariant_of-result c = rw c.new.ensures.items (bounded_none c.args.length c.requires, refl)
