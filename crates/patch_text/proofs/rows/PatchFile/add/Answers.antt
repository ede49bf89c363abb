use Rattle.std.proofs.Common.{◌≡◌, true, refl, sym, ◌∙◌}
use Rattle.std.proofs.lemmas.Bool.{false≢true}
use Rattle.patch_text.specs.declared.rows.PatchRow.TheVariants.{Edit}
use Rattle.patch_text.specs.Contents.{is_bounded, with_row, has_small_numbers}
use Rattle.patch_text.proofs.Bounds.{told}
use Rattle.patch_text.proofs.rows.PatchFile.add.Goals as goal

pub returns-then-not-has_room-clause-too_large : goal.returns-then-not-has_room-clause-too_large
returns-then-not-has_room-clause-too_large c =
    let row = Edit c.args.place c.args.cut c.args.put.now in
    let same = told c.args.self.now row (has_small_numbers row) c.has_room.result c.has_room.ensures.bounded refl c.has_room.ensures.value in
    (λ _. same ∙ c.if-not-has_room.true, λ _. refl)

pub push-requires : goal.push-requires
push-requires c =
    let row = Edit c.args.place c.args.cut c.args.put.now in
    let fits : is_bounded (with_row c.args.self.now row) ≡ true = told c.args.self.now row (has_small_numbers row) c.has_room.result c.has_room.ensures.bounded refl c.has_room.ensures.value ∙ c.if-not-has_room.false in
    rw c.in-Ok.ensures fits

pub returns-clause-too_large : goal.returns-clause-too_large
returns-clause-too_large c =
    let row = Edit c.args.place c.args.cut c.args.put.now in
    let fits : is_bounded (with_row c.args.self.now row) ≡ true = told c.args.self.now row (has_small_numbers row) c.has_room.result c.has_room.ensures.bounded refl c.has_room.ensures.value ∙ c.if-not-has_room.false in
    (λ e. absurd (c.push.ensures.memory e), λ no. absurd (false≢true (sym no ∙ fits)))

pub returns-in_default-clause-too_large : goal.returns-in_default-clause-too_large
returns-in_default-clause-too_large c =
    let row = Edit c.args.place c.args.cut c.args.put.now in
    let fits : is_bounded (with_row c.args.self.now row) ≡ true = told c.args.self.now row (has_small_numbers row) c.has_room.result c.has_room.ensures.bounded refl c.has_room.ensures.value ∙ c.if-not-has_room.false in
    (λ e. absurd (cc), λ no. absurd (false≢true (sym no ∙ fits)))
