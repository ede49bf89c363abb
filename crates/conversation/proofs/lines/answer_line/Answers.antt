use Rattle.std.specs.Prelude.{◌++◌, ◌∷◌, []}
use Rattle.conversation.proofs.AnswerLemmas.{none_answered, on_err}
use Rattle.conversation.proofs.lines.answer_line.Goals as goal

pub returns-in_err-extend_from_slice-clause-broke : goal.returns-in_err-extend_from_slice-clause-broke
returns-in_err-extend_from_slice-clause-broke g c =
    on_err c.from_residual.result _ (none_answered g.A.Answerer.says c.args.answerer.now ((c.args.waiting.now.items ++ c.args.end.now) ∷ []) (g.K.Sink.bytes c.args.sink.now))
