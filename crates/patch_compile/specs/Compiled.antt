-- What a patch file compiles to.
use Rattle.std.specs.Prelude.{ℕ, if◌then◌else◌, Option, Some, None, Result, Ok, Err, List, length, nat_lt}
use Rattle.fuun_base.specs.declared.letters.Base.{Base}
use Rattle.patch_text.specs.declared.rows.PatchRow.{PatchRow}
use Rattle.patch_text.specs.Contents.{Contents}
use Rattle.patch_text.specs.Outside.{outside}
use Rattle.patch_compile.specs.declared.compiling.CompileError.{CompileError}
use Rattle.patch_compile.specs.declared.compiling.CompileError.TheVariants.{Outside, TooLong}
use Rattle.patch_compile.specs.Code.{prefix}

-- a prefix within the limit
abbrev pub prefix_within : ℕ → List Base → Result (List Base) CompileError
prefix_within limit code = if nat_lt limit (length code) then Err TooLong else Ok code

-- the prefix of rows, unless a row is outside
abbrev pub unless_outside : Option ℕ → ℕ → List PatchRow → Result (List Base) CompileError
unless_outside (Some number) limit rows = Err (Outside number)
unless_outside None limit rows = prefix_within limit (prefix rows)

-- the prefix of a patch file, or why it has none: a row that is outside is judged before the limit
abbrev pub compiled : Contents → ℕ → Result (List Base) CompileError
compiled contents limit = unless_outside (outside contents) limit contents.rows
