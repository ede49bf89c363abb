use Rattle.std.proofs.Common.{◌≡◌, ◌<◌, false, arith, sym, ◌∙◌}
use Rattle.picture_in.specs.Pixmap.{rgb_at}
use Rattle.draw_compile.specs.Runs.{same}
use Rattle.draw_compile.proofs.RunLemmas.{length-row_at, run_between}
use Rattle.draw_compile.proofs.runs.run_at.Goals as goal
use Rattle.draw_compile.proofs.runs.run_at.Goals.{then-loop-stop-test+else-is_at, else-loop-stop-test}

pub returns-clause-first : goal.returns-clause-first
returns-clause-first c =
    let picture = c.args.picture.now in
    let x = c.args.start.x in
    let y = c.args.start.y in
    let stop = c.loop-stop.stop in
    let p = c.rgb-pixel.result in
    let is = c.rgb-pixel.ensures.picture in
    let before = c.loop-stop.invariant in
    let stops : stop < 600 → same p (rgb_at picture stop y) ≡ false =
    λ more. elim c.loop-stop-test.branch [
      | then-loop-stop-test+else-is_at w ↦ sym w.is_at.ensures ∙ w.if-is_at.false
      | else-loop-stop-test w ↦ absurd (omega (arith, w.loop-stop-test.false))
    ] in
    run_between picture x y stop p before.some before.within (length-row_at 600 picture y (omega (arith, is.filled))) before.all stops
