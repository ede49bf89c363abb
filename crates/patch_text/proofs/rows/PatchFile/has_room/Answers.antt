use Rattle.std.proofs.Common.{◌≡◌, ◌≤◌, ◌^◌, arith, length}
use Rattle.patch_text.specs.Contents.{puts_of}
use Rattle.patch_text.proofs.Bounds.{within, room_told}
use Rattle.patch_text.proofs.rows.PatchFile.has_room.Goals as goal

pub overflow_sub-result : goal.overflow_sub-result
overflow_sub-result c = omega (arith, (within (record { stated = c.self.inside.stated; rows = c.self.inside.rows.items }) c.self.invariant.0).puts, c.self.invariant.1)

pub returns-clause-value : goal.returns-clause-value
returns-clause-value c =
    let most : c.self.inside.put_bases ≤ 2 ^ 26 = omega (arith, (within (record { stated = c.self.inside.stated; rows = c.self.inside.rows.items }) c.self.invariant.0).puts, c.self.invariant.1) in
    let bases : c.self.inside.put_bases ≡ length (puts_of c.args.self.now.rows) = rw (← c.self.view_is) c.self.invariant.1 in
    rw (c.rows.ensures.rows, ← bases) (room_told c.self.inside.put_bases c.args.put (length c.args.self.now.rows) c.args.is_small most)
