-- What the bytes of a patch file stand for.
use Rattle.std.specs.Prelude.{codes, ℕ, ◌+◌, ◌^◌, ◌==◌, ◌||◌, ℤ, pos, negsuc, Bool, true, false, if◌then◌else◌, Option, Some, None, Result, Ok, Err, List, [], ◌∷◌, length, nat_le}
use Rattle.std.specs.List.{list_all, list_any}
use Rattle.std.specs.Option.{option_map, option_map_or, option_and_then}
use Rattle.std.specs.Str.{is_utf8, bytes_eq}
use Rattle.toml.specs.Data.{Data, Items, no_items, item, Members, no_members, member, as_array, as_integer, as_str, as_table, get_member}
use Rattle.toml.specs.Parse.{parse_document}
use Rattle.fuun_base.specs.declared.letters.Base.{Base}
use Rattle.fuun_base.specs.DnaFile.{bases}
use Rattle.fuun_base.specs.Letter.{is_letter}
use Rattle.patch_text.specs.declared.read.PatchError.{PatchError}
use Rattle.patch_text.specs.declared.read.PatchError.TheVariants.{BadToml, BadPatch}
use Rattle.patch_text.specs.declared.rows.PatchRow.{PatchRow}
use Rattle.patch_text.specs.declared.rows.PatchRow.TheVariants.{Edit, Copy, Move}
use Rattle.patch_text.specs.Contents.{Contents, no_rows, with_row, is_bounded}

-- the keys of the heading, and those of each kind of row
abbrev pub heading_keys : List (List ℕ)
heading_keys = codes "version" ∷ codes "length" ∷ codes "patch" ∷ []

abbrev pub edit_keys : List (List ℕ)
edit_keys = codes "at" ∷ codes "cut" ∷ codes "put" ∷ []

abbrev pub copy_keys : List (List ℕ)
copy_keys = codes "copy" ∷ codes "count" ∷ codes "to" ∷ []

abbrev pub move_keys : List (List ℕ)
move_keys = codes "move" ∷ codes "count" ∷ codes "to" ∷ []

-- a key is one of these
abbrev pub is_among : List (List ℕ) → List ℕ → Bool
is_among keys key = list_any (bytes_eq key) keys

-- a table has no other keys than these
abbrev pub has_only : List (List ℕ) → Members → Bool
has_only keys no_members = true
has_only keys (member key value members) = if is_among keys key then has_only keys members else false

-- a whole number from 0 to 2^40
abbrev pub small_number : ℤ → Option ℕ
small_number (pos n) = if nat_le n (2 ^ 40) then Some n else None
small_number (negsuc n) = None

-- the number at a key
abbrev pub number_at : List ℕ → Members → Option ℕ
number_at key table = option_and_then (λ value. option_and_then small_number (as_integer value)) (get_member key table)

-- the bases of a text of the letters I, C, F and P alone
abbrev pub bases_of : List ℕ → Option (List Base)
bases_of text = if list_all is_letter text then Some (bases text) else None

-- the bases at a key
abbrev pub bases_at : List ℕ → Members → Option (List Base)
bases_at key table = option_and_then (λ value. option_and_then bases_of (as_str value)) (get_member key table)

-- the rows of each kind that a table stands for
abbrev pub edit_in : Members → Option PatchRow
edit_in table =
    option_and_then (λ place.
    option_and_then (λ cut.
    option_map (λ put. Edit place cut put) (bases_at (codes "put") table)) (number_at (codes "cut") table)) (number_at (codes "at") table)

abbrev pub copy_in : Members → Option PatchRow
copy_in table =
    option_and_then (λ source.
    option_and_then (λ count.
    option_map (λ target. Copy source count target) (number_at (codes "to") table)) (number_at (codes "count") table)) (number_at (codes "copy") table)

abbrev pub move_in : Members → Option PatchRow
move_in table =
    option_and_then (λ source.
    option_and_then (λ count.
    option_map (λ target. Move source count target) (number_at (codes "to") table)) (number_at (codes "count") table)) (number_at (codes "move") table)

-- the copy or the move that a table stands for, in a file of version 2
abbrev pub shift_in : ℕ → Members → Option PatchRow
shift_in version table =
    if version == 1 then None
    else if has_only copy_keys table then copy_in table
    else if has_only move_keys table then move_in table
    else None

-- the row that a table stands for, in a file of this version
abbrev pub row_in : ℕ → Members → Option PatchRow
row_in version table = if has_only edit_keys table then edit_in table else shift_in version table

-- one member of the array more: it is refused by its number, counted from 1, where it is no row or breaks a bound
abbrev pub with_bounded : Contents → PatchRow → Result Contents PatchError
with_bounded done row = if is_bounded (with_row done row) then Ok (with_row done row) else Err (BadPatch (length done.rows + 1))

abbrev pub with_member : ℕ → Contents → Data → Result Contents PatchError
with_member version done value = option_map_or (with_bounded done) (option_and_then (row_in version) (as_table value)) (Err (BadPatch (length done.rows + 1)))

-- the members of the array in order: the first that is refused decides
abbrev pub next_members : Result Contents PatchError → (Contents → Result Contents PatchError) → Result Contents PatchError
next_members (Ok done) next = next done
next_members (Err error) next = Err error

abbrev pub with_members : ℕ → Contents → Items → Result Contents PatchError
with_members version done no_items = Ok done
with_members version done (item value items) = next_members (with_member version done value) (λ more. with_members version more items)

-- what the heading says: the version, the length, and the array, which may lack
pub record Heading : Type 0 where
  pub version : ℕ
  pub stated : ℕ
  pub items : Items

abbrev pub version_in : Members → Option ℕ
version_in table = option_and_then (λ n. if n == 1 || n == 2 then Some n else None) (number_at (codes "version") table)

abbrev pub items_of : Option Data → Option Items
items_of None = Some no_items
items_of (Some value) = as_array value

abbrev pub heading_in : Members → Option Heading
heading_in table =
    if has_only heading_keys table then
    option_and_then (λ version.
    option_and_then (λ stated.
    option_map (λ items. record { version = version; stated = stated; items = items }) (items_of (get_member (codes "patch") table))) (number_at (codes "length") table)) (version_in table)
    else None

-- a document: its heading is judged first
abbrev pub contents_in : Members → Result Contents PatchError
contents_in table = option_map_or (λ heading. with_members heading.version (no_rows heading.stated) heading.items) (heading_in table) (Err (BadPatch 0))

-- the document of bytes that are UTF-8
abbrev pub document_of : List ℕ → Option Members
document_of bytes = if is_utf8 bytes then parse_document bytes else None

-- what the bytes stand for, or why they are refused
abbrev pub patches : List ℕ → Result Contents PatchError
patches bytes = option_map_or contents_in (document_of bytes) (Err BadToml)
