use Rattle.std.proofs.Common.{flat_map}
use Rattle.std.proofs.lemmas.Result.{MatchResult-from_err}
use Rattle.fuun_io.proofs.WrittenLemmas.{PutsFront-longer}
use Rattle.listing.proofs.PutLemmas.{puts_behind}
use Rattle.listing.specs.Texts.{pair_text}
use Rattle.tracer.proofs.lines.put_items.Goals as goal

pub returns-in_err-put_pair-clause-puts : goal.returns-in_err-put_pair-clause-puts
returns-in_err-put_pair-clause-puts g c =
    MatchResult-from_err c.from_residual.result _ _ c.from_residual.ensures.0
    (λ _. PutsFront-longer _ _ (pair_text c.args.report.now.pattern c.args.report.now.template) (flat_map (λ piece. piece.now) c.args.behind.now) c.in_err-put_pair.ensures.puts)

pub returns-clause-puts : goal.returns-clause-puts
returns-clause-puts g c =
    puts_behind (pair_text c.args.report.now.pattern c.args.report.now.template) (flat_map (λ piece. piece.now) c.args.behind.now) _ _ _ c.put_pieces.result c.in_ok-put_pair.ensures.puts c.put_pieces.ensures.puts
