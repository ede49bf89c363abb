use Rattle.std.proofs.Common.{◌≡◌, arith, length}
use Rattle.patch_text.specs.Contents.{puts_of}
use Rattle.patch_text.proofs.Bounds.{puts_fit}
use Rattle.patch_text.proofs.rows.PatchFile.push.Goals as goal

pub overflow_add-self : goal.overflow_add-self
overflow_add-self c =
    let bases : c.self.inside.put_bases ≡ length (puts_of c.args.self.now.rows) = rw (← c.self.view_is) c.self.invariant.1 in
    omega (arith, puts_fit c.args.self.now c.args.row c.requires, c.put_len-put.ensures, bases)
