use Rattle.std.proofs.Common.{◌≡◌, true, refl, sym, ◌∙◌}
use Rattle.std.specs.Prelude.{◌&&◌, length}
use Rattle.std.proofs.lemmas.Bool.{false≢true}
use Rattle.patch_text.specs.Contents.{is_bounded, with_row, put_of}
use Rattle.patch_text.specs.Room.{has_room}
use Rattle.patch_text.proofs.Bounds.{told}
use Rattle.patch_text.proofs.rows.PatchFile.add_row.Goals as goal

pub returns-then-not-has_room-clause-too_large : goal.returns-then-not-has_room-clause-too_large
returns-then-not-has_room-clause-too_large c =
    let is : c.has_room.result ≡ (c.has_small_numbers.result && has_room c.args.self.now (length (put_of c.args.row))) = rw (← c.put_len.ensures) c.has_room.ensures.value in
    let same = told c.args.self.now c.args.row c.has_small_numbers.result c.has_room.result c.has_room.ensures.bounded c.has_small_numbers.ensures is in
    (λ _. same ∙ c.if-not-has_room.true, λ _. refl)

pub push-requires : goal.push-requires
push-requires c =
    let is : c.has_room.result ≡ (c.has_small_numbers.result && has_room c.args.self.now (length (put_of c.args.row))) = rw (← c.put_len.ensures) c.has_room.ensures.value in
    told c.args.self.now c.args.row c.has_small_numbers.result c.has_room.result c.has_room.ensures.bounded c.has_small_numbers.ensures is ∙ c.if-not-has_room.false

pub returns-clause-too_large : goal.returns-clause-too_large
returns-clause-too_large c =
    let is : c.has_room.result ≡ (c.has_small_numbers.result && has_room c.args.self.now (length (put_of c.args.row))) = rw (← c.put_len.ensures) c.has_room.ensures.value in
    let fits : is_bounded (with_row c.args.self.now c.args.row) ≡ true = told c.args.self.now c.args.row c.has_small_numbers.result c.has_room.result c.has_room.ensures.bounded c.has_small_numbers.ensures is ∙ c.if-not-has_room.false in
    (λ e. absurd (c.push.ensures.memory e), λ no. absurd (false≢true (sym no ∙ fits)))
