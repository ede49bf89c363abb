use Rattle.std.proofs.Common.{◌≡◌, ◌-◌, Err, get_or, arith, ◌∙◌}
use Rattle.std.proofs.lemmas.Grind.{common_steps}
use Rattle.patch_compile.specs.declared.compiling.CompileError.TheVariants.{TooLong}
use Rattle.patch_compile.proofs.Judged as judged
use Rattle.patch_compile.proofs.compiling.reversed_prefix.Goals as goal

pub returns-in-Err-clause-too_long : goal.returns-in-Err-clause-too_long
returns-in-Err-clause-too_long c e =
    let row = c.index-rows-left.result in
    let failed : c.add_part.result ≡ Err TooLong = c.in-Err.is ∙ cc in
    let past = c.add_part.ensures.too_long failed in
    let at : get_or c.args.rows.now (c.rows.left - 1) row ≡ row = grind (arith, common_steps) in
    judged.too_long c.args.rows.now c.args.limit c.rows.left c.rows.bases.items row c.rows-test.true c.rows.invariant (rw at past)
