use Rattle.std.proofs.Common.{ℕ, List, Bor}
use Rattle.std.proofs.lemmas.Result.{MatchResult-from_err}
use Rattle.workload.specs.Summary.{line_text}
use Rattle.workload.proofs.Lines.{part_at}
use Rattle.workload.proofs.summary.put_lines.Goals as goal

pub returns-in_err-put_line-clause-puts : goal.returns-in_err-put_line-clause-puts
returns-in_err-put_line-clause-puts g c =
    MatchResult-from_err c.from_residual.result _ _ c.from_residual.ensures.0
    (λ _. part_at (λ (line : Bor (List ℕ) × ℕ). line_text line.0.now line.1) c.args.lines.now c.loop-word.word-index _ _ _ _ c.loop-word-test.true c.loop-word.invariant.put c.in_err-put_line.ensures.puts)
