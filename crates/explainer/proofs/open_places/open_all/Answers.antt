use Rattle.std.proofs.Common.{◌+◌, refl}
use Rattle.explainer.proofs.OpenLemmas.{goes_more}
use Rattle.explainer.proofs.open_places.open_all.Goals as goal

pub returns-then-count-size-clause-goes : goal.returns-then-count-size-clause-goes
returns-then-count-size-clause-goes c = λ s z.
    goes_more s z c.args.begun.now.items c.args.place c.args.begun.now.items c.push.new.self.items c.args.place (c.args.place + 1) (λ from far. far) c.in_ok-push.ensures.items refl
