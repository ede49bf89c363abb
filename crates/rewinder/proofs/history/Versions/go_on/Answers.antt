use Rattle.std.proofs.Common.{◌≡◌, ◌+◌, ◌-◌, ◌≤◌, ap, arith, ◌∙◌}
use Rattle.std.specs.Prelude.{min}
use Rattle.rewinder.specs.History.{History, reached}
use Rattle.rewinder.specs.Versions.{most_attempts}
use Rattle.rewinder.proofs.StepLemmas.{comes}
use Rattle.rewinder.proofs.history.Versions.go_on.Goals as goal

pub returns-clause-comes : goal.returns-clause-comes
returns-clause-comes g c =
    let old : History = c.args.self.now in
    let new : History = c.reach.new.self in
    let behind : c.args.attempt ≤ reached old = omega (arith, c.requires) in
    let number_is : c.args.attempt + c.min.result ≡ c.args.attempt + min c.args.count (most_attempts - c.args.attempt) = ap (λ n. c.args.attempt + n) c.min.ensures in
    let last : c.reached.result ≡ reached new = omega (arith, c.reached.ensures.number) in
    let place_is : c.min-place.result ≡ min (c.args.attempt + c.min.result) (reached new) = c.min-place.ensures ∙ ap (min (c.args.attempt + c.min.result)) last in
    comes (g.S.Strand.height_bound old.limit) old new c.args.attempt c.args.count (c.args.attempt + c.min.result) c.min-place.result c.why-stop.result c.args.steps.now c.reach.new.steps
    c.reached-reached.ensures.known c.in_ok-reach.ensures.known c.in_ok-reach.ensures.keeps behind number_is place_is
    c.why-stop.ensures.full c.why-stop.ensures.limited (λ short few. c.why-stop.ensures.known short few ∙ ap (λ (h : History). h.stop) c.self.view_is) c.in_ok-reach.ensures.reaches
