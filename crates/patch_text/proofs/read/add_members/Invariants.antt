use Rattle.std.proofs.Common.{◌≡◌, drop}
use Rattle.toml.specs.View.{items_view}
use Rattle.patch_text.specs.Meaning.{with_members}
use Rattle.patch_text.proofs.read.add_members.Given as goal

abbrev pub invariant-items : goal.invariant-items
invariant-items l =
    with_members l.version l.file (items_view (drop l.item-index l.items)) ≡ with_members l.version l.fn.file (items_view l.items)
