-- The document that bytes are.
use Rattle.std.proofs.Common.{◌≡◌, ℕ, List, Some, None, Err, refl, inl, inr}
use Rattle.std.specs.Prelude.{IsUtf8}
use Rattle.std.specs.Str.{is_utf8}
use Rattle.std.proofs.lemmas.Bool.{cases_Bool}
use Rattle.std.proofs.lemmas.Str.{IsUtf8-from_is_utf8, is_utf8-from_IsUtf8}
use Rattle.toml.specs.Data.{Members}
use Rattle.toml.specs.Parse.{parse_document}
use Rattle.patch_text.specs.declared.read.PatchError.TheVariants.{BadToml}
use Rattle.patch_text.specs.Meaning.{contents_in, patches}

pub patches_of_table : (bytes : List ℕ) (table : Members) → IsUtf8 bytes → parse_document bytes ≡ Some table → patches bytes ≡ contents_in table
patches_of_table bytes table utf8 parsed = rw (is_utf8-from_IsUtf8 bytes utf8, parsed) refl

pub patches_of_none : (bytes : List ℕ) → (IsUtf8 bytes → parse_document bytes ≡ None) → patches bytes ≡ Err BadToml
patches_of_none bytes none =
    elim (cases_Bool (is_utf8 bytes)) [
      | inl so ↦ rw (so, none (IsUtf8-from_is_utf8 bytes so)) refl
      | inr other ↦ rw other refl
    ]
