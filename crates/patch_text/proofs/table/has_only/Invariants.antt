use Rattle.std.proofs.Common.{◌≡◌}
use Rattle.toml.specs.View.{members_view}
use Rattle.patch_text.specs.Keys.{keys_of}
use Rattle.patch_text.specs.Meaning.{has_only}
use Rattle.patch_text.proofs.table.has_only.Given as goal

abbrev pub invariant-members : goal.invariant-members
invariant-members l =
    (goal.iterator-members).can_next l.key-iterator ×
    (goal.iterator-members).is_finite l.key-iterator ×
    (has_only (keys_of l.kind) (members_view l.key-iterator) ≡ has_only (keys_of l.kind) (members_view l.table.entries))
