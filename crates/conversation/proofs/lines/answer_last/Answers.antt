use Rattle.std.proofs.Common.{arith}
use Rattle.conversation.proofs.LineLemmas.{lines_unended}
use Rattle.conversation.proofs.lines.answer_last.Goals as goal

pub returns-clause-told : goal.returns-clause-told
returns-clause-told g c = rw (lines_unended c.args.line.now (omega (arith, c.if-line-eq0.false)) c.requires.unended) c.answer_one.ensures.told

pub returns-clause-broke : goal.returns-clause-broke
returns-clause-broke g c = rw (lines_unended c.args.line.now (omega (arith, c.if-line-eq0.false)) c.requires.unended) c.answer_one.ensures.broke
