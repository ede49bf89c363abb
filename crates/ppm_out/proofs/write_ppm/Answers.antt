use Rattle.std.proofs.lemmas.Result.{MatchResult-from_err}
use Rattle.fuun_io.proofs.WrittenLemmas.{PutsFront-longer}
use Rattle.ppm_out.specs.Ppm.{header, ppm}
use Rattle.ppm_out.proofs.PpmLemmas.{colours, ppm_behind}
use Rattle.ppm_out.proofs.write_ppm.Goals as goal

pub returns-in_err-put_header-clause-puts : goal.returns-in_err-put_header-clause-puts
unfolding ppm
returns-in_err-put_header-clause-puts g c =
    MatchResult-from_err c.from_residual.result _ _ c.from_residual.ensures.0
    (λ _. PutsFront-longer _ _ (header g.row.SIDE) (colours c.args.bitmap.now) c.in_err-put_header.ensures.puts)

pub returns-clause-puts : goal.returns-clause-puts
returns-clause-puts g c =
    ppm_behind g.row.SIDE c.args.bitmap.now _ _ _ _ c.put_pixels.result c.pixels.ensures.value c.in_ok-put_header.ensures.puts c.put_pixels.ensures.puts
