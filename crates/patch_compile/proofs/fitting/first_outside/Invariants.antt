use Rattle.patch_compile.proofs.Judged.{HaveFit}
use Rattle.patch_compile.proofs.fitting.first_outside.Given as goal

abbrev pub invariant-rows : goal.invariant-rows
invariant-rows l = HaveFit l.file.stated l.file.rows l.index l.length
