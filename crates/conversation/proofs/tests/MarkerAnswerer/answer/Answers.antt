use Rattle.std.proofs.Common.{ℕ, List, ◌++◌, [], ap, rules}
use Rattle.conversation.proofs.AnswerLemmas.{front_put}
use Rattle.conversation.proofs.tests.MarkerAnswerer.answer.Goals as goal

pub returns-in-Err-clause-broke : goal.returns-in-Err-clause-broke
returns-in-Err-clause-broke g c =
    front_put _ c.args.self.now c.args.line.now (record { mark = c.saturating_add-self.result }) _ _ _
    (search rules, ap (λ (l : List ℕ). c.args.line.now ++ (l ++ [])) c.as_slice.ensures) c.in-Err.ensures.puts
