-- The DNA of a picture draws it.
use Rattle.std.proofs.Common.{◌≡◌, None, List, sym, ap, subst, arith}
use Rattle.fuun_base.specs.declared.letters.Base.{Base}
use Rattle.rna_code.specs.declared.profile.Profile.TheVariants.{Plain}
use Rattle.rna_code.specs.Commands.{act_of}
use Rattle.layers.specs.Layers.{top_of}
use Rattle.painter.specs.Picture.{Picture, start}
use Rattle.painter.proofs.Outcomes.{builds_once}
use Rattle.exec_loop.specs.Run.{Run, IsRun}
use Rattle.exec_loop.proofs.Runs.{one_run}
use Rattle.picture_in.specs.Pixmap.{Rgb, IsPicture}
use Rattle.draw_compile.specs.Runs.{runs_from}
use Rattle.draw_compile.specs.Drawing.{codes_of, commands_of, drawing}
use Rattle.draw_compile.specs.Law.{BuildsPicture, DrawingDraws, Shows}
use Rattle.draw_compile.proofs.LengthLemmas.{whole-commands}
use Rattle.draw_compile.proofs.Codes.{drawing_run, drawing_runs}
use Rattle.draw_compile.proofs.Acting.{plain_knows}
use Rattle.draw_compile.proofs.Drawn.{picture_drawn}

-- the commands of a picture
abbrev all_commands : List Rgb → List (List Base)
all_commands picture = commands_of None (runs_from 600 picture 0 600)

builds_picture : (picture : List Rgb) → IsPicture picture → BuildsPicture (all_commands picture) picture
builds_picture picture is =
    let made = picture_drawn 600 10 (act_of Plain) plain_knows picture (omega (arith, is.filled)) is.small (omega arith) (omega arith) in
    record {
      built = made.0;
      builds = made.1.0;
      shows =
          λ other builds.
          let same : made.0 ≡ other = builds_once 600 10 (act_of Plain) (all_commands picture) (start 600) made.0 other made.1.0 builds in
          subst (λ (p : Picture). Shows (top_of p.layers) picture) same made.1.1;
    }

pub drawing_draws : DrawingDraws
unfolding drawing
drawing_draws picture is limit within =
    let commands : List (List Base) = all_commands picture in
    let run : Run = drawing_run commands in
    let runs : IsRun (codes_of commands) 1 limit run = drawing_runs commands limit (whole-commands None (runs_from 600 picture 0 600)) in
    let only : (other : Run) → IsRun (codes_of commands) 1 limit other → run ≡ other = λ other other_is. one_run limit 1 (codes_of commands) run other runs other_is in
    record {
      run = run;
      is = runs;
      ends = λ other other_is. ap (λ (r : Run). r.end) (sym (only other other_is));
      draws = λ other other_is. subst (λ (r : Run). BuildsPicture r.rna picture) (only other other_is) (builds_picture picture is);
    }
