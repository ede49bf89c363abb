-- The kinds of tables of a patch file, by their keys.
use Rattle.std.specs.Prelude.{ℕ, List}
use Rattle.patch_text.specs.declared.table.Kind.{Kind}
use Rattle.patch_text.specs.declared.table.Kind.TheVariants.{Heading, Edit, Copy, Move}
use Rattle.patch_text.specs.Meaning.{heading_keys, edit_keys, copy_keys, move_keys}

abbrev pub keys_of : Kind → List (List ℕ)
keys_of Heading = heading_keys
keys_of Edit = edit_keys
keys_of Copy = copy_keys
keys_of Move = move_keys
