use Rattle.std.proofs.Common.{◌≡◌, ◌++◌, take, flat_map}
use Rattle.patch_compile.specs.Code.{reference}
use Rattle.patch_compile.proofs.code.put_references.Given as goal

abbrev pub invariant-references : goal.invariant-references
invariant-references l = l.out.items ≡ l.fn.out.items ++ flat_map reference (take l.group-index l.references)
