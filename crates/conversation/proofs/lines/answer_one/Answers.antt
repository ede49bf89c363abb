use Rattle.std.proofs.lemmas.Result.{on_err_weaker}
use Rattle.conversation.proofs.AnswerLemmas.{one_broken}
use Rattle.conversation.proofs.lines.answer_one.Goals as goal

pub returns-clause-broke : goal.returns-clause-broke
returns-clause-broke g c = on_err_weaker c.answer.result (one_broken g.A.Answerer.says c.args.answerer.now c.args.line.now (g.K.Sink.bytes c.args.sink.now) (g.K.Sink.bytes c.answer.new.sink)) c.answer.ensures.broke
