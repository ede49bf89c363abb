use Rattle.std.proofs.Common.{◌≡◌, ◌<◌, get_or, length, true, false, arith, sym, ◌∙◌}
use Rattle.std.proofs.lemmas.Grind.{common_steps}
use Rattle.patch_text.specs.Lengths.{fits, length_after}
use Rattle.patch_compile.proofs.Judged.{outside_at, fit_more}
use Rattle.patch_compile.proofs.fitting.first_outside.Goals as goal

pub returns-then-not-fits : goal.returns-then-not-fits
returns-then-not-fits c =
    let rows = c.args.file.now.rows in
    let row = c.row-item.result in
    let within : c.rows.index < length rows = rw (← c.rows-row-items.ensures.rows) c.rows-test.true in
    let at : get_or rows c.rows.index row ≡ row = grind (arith, common_steps) in
    let misfit : fits c.rows.length (get_or rows c.rows.index row) ≡ false = rw at (sym c.fits.ensures ∙ c.if-not-fits.true) in
    outside_at c.args.file.now c.rows.index c.rows.length row within c.rows.invariant misfit

pub rows-preserved : goal.rows-preserved
rows-preserved c =
    let rows = c.args.file.now.rows in
    let row = c.row-item.result in
    let within : c.rows.index < length rows = rw (← c.rows-row-items.ensures.rows) c.rows-test.true in
    let at : get_or rows c.rows.index row ≡ row = grind (arith, common_steps) in
    let fit : fits c.rows.length (get_or rows c.rows.index row) ≡ true = rw at (sym c.fits.ensures ∙ c.if-not-fits.false) in
    let after : c.length_after-length.result ≡ length_after c.rows.length (get_or rows c.rows.index row) = rw at c.length_after-length.ensures.value in
    fit_more c.args.file.now.stated rows c.rows.index c.rows.length c.length_after-length.result row within c.rows.invariant fit after c.length_after-length.ensures.most
