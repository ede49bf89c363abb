use Rattle.std.proofs.lemmas.Result.{MatchResult-from_err}
use Rattle.fuun_io.proofs.WrittenLemmas.{PutsFront-longer}
use Rattle.listing.proofs.PutLemmas.{puts_behind}
use Rattle.tracer.specs.Lines.{head_text, outcome_text}
use Rattle.tracer.proofs.lines.put_line.Goals as goal

pub returns-in_err-put_head-clause-puts : goal.returns-in_err-put_head-clause-puts
returns-in_err-put_head-clause-puts g c =
    let report = c.args.report.now in
    MatchResult-from_err c.from_residual.result _ _ c.from_residual.ensures.0
    (λ _. PutsFront-longer _ _ (head_text c.args.attempt c.args.len) (outcome_text report.pattern report.template report.outcome c.args.next_len) c.in_err-put_head.ensures.puts)

pub returns-clause-puts : goal.returns-clause-puts
returns-clause-puts g c =
    let report = c.args.report.now in
    puts_behind (head_text c.args.attempt c.args.len) (outcome_text report.pattern report.template report.outcome c.args.next_len) _ _ _ c.put_outcome.result c.in_ok-put_head.ensures.puts c.put_outcome.ensures.puts
