use Rattle.std.proofs.lemmas.Result.{on_ok_weaker}
use Rattle.rewinder.specs.History.{ByOne, ByStop}
use Rattle.rewinder.proofs.history.Versions.extend.Goals as goal

pub returns-in-Ok-clause-grows : goal.returns-in-Ok-clause-grows
returns-in-Ok-clause-grows g c =
    let made = rw c.in-Ok.is at c.in_ok-next.ensures.made in
    on_ok_weaker c.push.result (λ added. ByOne (g.S.Strand.bases c.in-Ok.next) made.0 added) c.push.ensures.added

pub returns-in-Err-clause-grows : goal.returns-in-Err-clause-grows
returns-in-Err-clause-grows g c =
    let made = rw c.in-Err.is at c.in_ok-next.ensures.made in
    ByStop c.in-Err.stop made c.end.ensures.ended
