use Rattle.fuun_top.specs.Making.{IsMade}
use Rattle.fuun_top.specs.Texts.{letters}
use Rattle.fuun_top.proofs.WrittenOutput.{answer_put, answer_refused}
use Rattle.fuun_top.proofs.making.put_text.Goals as goal

pub returns-in-Ok : goal.returns-in-Ok
returns-in-Ok g c =
    answer_put (IsMade c.args.verb c.args.text.now) letters c.in-Ok.dna c.put_list.result c.status_after.result _ _ _ _
    c.in-Ok.ensures c.status_after.ensures c.put_list.ensures.puts c.put_list.ensures.cause

pub returns-in-Err : goal.returns-in-Err
returns-in-Err g c = answer_refused (IsMade c.args.verb c.args.text.now) letters c.in-Err.status _ _ c.in-Err.ensures
