-- Whether a row may be added, by what it brings.
use Rattle.std.specs.Prelude.{ℕ, ◌+◌, ◌^◌, ◌&&◌, Bool, length, nat_le, nat_lt}
use Rattle.patch_text.specs.declared.rows.PatchRow.{PatchRow}
use Rattle.patch_text.specs.Contents.{Contents, has_small_numbers, put_of, puts_of}

-- there is room for one row more, which puts so many bases
abbrev pub has_room : Contents → ℕ → Bool
has_room contents put = nat_lt (length contents.rows) (2 ^ 26) && nat_le (length (puts_of contents.rows) + put) (2 ^ 26)

-- a row keeps the bounds
abbrev pub may_follow : Contents → PatchRow → Bool
may_follow contents row = has_small_numbers row && has_room contents (length (put_of row))
