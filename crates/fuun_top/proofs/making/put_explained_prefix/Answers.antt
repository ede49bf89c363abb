use Rattle.explainer.specs.Lines.{explained_text}
use Rattle.fuun_top.specs.Making.{IsExplanation}
use Rattle.fuun_top.proofs.WrittenOutput.{answer_put, answer_refused}
use Rattle.fuun_top.proofs.making.put_explained_prefix.Goals as goal

pub returns-in-Ok : goal.returns-in-Ok
returns-in-Ok g c =
    answer_put (IsExplanation c.args.prefix.now c.args.length c.args.attempts c.args.limit) explained_text c.in-Ok.found c.put_explained.result c.status_after.result _ _ _ _
    c.in-Ok.ensures c.status_after.ensures c.put_explained.ensures.puts c.put_explained.ensures.cause

pub returns-in-Err : goal.returns-in-Err
returns-in-Err g c = answer_refused (IsExplanation c.args.prefix.now c.args.length c.args.attempts c.args.limit) explained_text c.in-Err.refusal _ _ c.in-Err.ensures
