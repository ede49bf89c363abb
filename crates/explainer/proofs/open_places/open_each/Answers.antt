use Rattle.std.proofs.Common.{◌≡◌, ◌+◌, arith}
use Rattle.explainer.proofs.OpenLemmas.{goes_more}
use Rattle.explainer.proofs.open_places.open_each.Goals as goal

pub loop-behind-preserved : goal.loop-behind-preserved
loop-behind-preserved c = λ s z.
    goes_more s z c.args.begun.now.items c.args.place c.loop-behind.begun.items c.push.new.self.items (c.args.place + c.loop-behind.behind) (c.args.place + (c.loop-behind.behind + 1))
    (c.loop-behind.invariant s z) c.in_ok-push.ensures.items (let e : c.args.place + c.loop-behind.behind + 1 ≡ c.args.place + (c.loop-behind.behind + 1) = omega arith in e)
