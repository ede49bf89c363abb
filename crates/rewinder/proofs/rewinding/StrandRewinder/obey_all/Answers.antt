use Rattle.std.proofs.Common.{◌≡◌, Result, Ok, Err, get_or, ap, subst, sym, ◌∙◌}
use Rattle.std.proofs.lemmas.List.{get_or_default}
use Rattle.std.proofs.lemmas.Result.{err_from_is_err_and}
use Rattle.exec_loop.proofs.Parts.{on_err}
use Rattle.rewinder.specs.declared.orders.Order.TheVariants.{Step}
use Rattle.rewinder.specs.declared.orders.RewindError.{RewindError}
use Rattle.rewinder.specs.Rewinding.{AllCommanded, BrokeOff}
use Rattle.rewinder.specs.Weights.{OrderTicks, TicksForScript}
use Rattle.rewinder.proofs.ScriptSteps.{broke_off, failed_all, failed_ticks, obeying_more}
use Rattle.rewinder.proofs.rewinding.StrandRewinder.obey_all.Goals as goal

pub returns-in_err-command-clause-commanded : goal.returns-in_err-command-clause-commanded
returns-in_err-command-clause-commanded g c =
    let items = c.as_slice-order-items.result.now in
    let order = get_or items c.loop-order.order-index (Step 0) in
    let failed = err_from_is_err_and c.from_residual.result c.from_residual.ensures.1 in
    let is : c.from_residual.result ≡ Err c.in_err-command.field-0.0 = failed.1 ∙ ap (λ e. Err e) failed.2 in
    let h = c.in_err-command.ensures in
    subst (λ l. AllCommanded c.args.self.now c.command.new.self l c.from_residual.result (g.K.Sink.bytes c.args.sink.now) (g.K.Sink.bytes c.command.new.sink)) c.as_slice-order-items.ensures
    (subst (λ r. AllCommanded c.args.self.now c.command.new.self items r (g.K.Sink.bytes c.args.sink.now) (g.K.Sink.bytes c.command.new.sink)) (sym is)
    (failed_all (g.S.Strand.height_bound c.args.self.now.limit) c.args.self.now c.loop-order.self items c.loop-order.order-index order (g.K.Sink.bytes c.args.sink.now) (g.K.Sink.bytes c.loop-order.sink) c.args.steps.now c.loop-order.steps
    c.loop-order.invariant.obeying c.loop-order-test.true (get_or_default items c.loop-order.order-index (Step 0) order c.loop-order-test.true) c.command.new.self (Unit {0}) (Unit {0}) c.in_err-command.field-0.0 (g.K.Sink.bytes c.command.new.sink)
    h.commanded h.start h.limit h.known))

pub returns-in_err-command-clause-broke : goal.returns-in_err-command-clause-broke
returns-in_err-command-clause-broke g c =
    let items = c.as_slice-order-items.result.now in
    let order = get_or items c.loop-order.order-index (Step 0) in
    let failed = err_from_is_err_and c.from_residual.result c.from_residual.ensures.1 in
    let is : c.from_residual.result ≡ Err c.in_err-command.field-0.0 = failed.1 ∙ ap (λ e. Err e) failed.2 in
    let h = c.in_err-command.ensures in
    on_err c.from_residual.result (BrokeOff c.args.self.now c.command.new.self c.args.orders.now c.from_residual.result (g.K.Sink.bytes c.args.sink.now) (g.K.Sink.bytes c.command.new.sink))
    (subst (λ l. BrokeOff c.args.self.now c.command.new.self l c.from_residual.result (g.K.Sink.bytes c.args.sink.now) (g.K.Sink.bytes c.command.new.sink)) c.as_slice-order-items.ensures
    (subst (λ r. BrokeOff c.args.self.now c.command.new.self items r (g.K.Sink.bytes c.args.sink.now) (g.K.Sink.bytes c.command.new.sink)) (sym is)
    (broke_off (g.S.Strand.height_bound c.args.self.now.limit) c.args.self.now c.loop-order.self items c.loop-order.order-index order (g.K.Sink.bytes c.args.sink.now) (g.K.Sink.bytes c.loop-order.sink) c.args.steps.now c.loop-order.steps
    c.loop-order.invariant.obeying c.loop-order-test.true (get_or_default items c.loop-order.order-index (Step 0) order c.loop-order-test.true) c.command.new.self (Unit {0}) (Unit {0}) c.in_err-command.field-0.0 (g.K.Sink.bytes c.command.new.sink)
    h.commanded)))

pub returns-in_err-command-clause-ticks : goal.returns-in_err-command-clause-ticks
returns-in_err-command-clause-ticks g c =
    let items = c.as_slice-order-items.result.now in
    let order = get_or items c.loop-order.order-index (Step 0) in
    let h = c.in_err-command.ensures in
    let result : Result (Unit {0}) RewindError = Err c.in_err-command.field-0.0 in
    let ticks = subst (λ n. OrderTicks (g.S.Strand.height_bound n) c.loop-order.self c.command.new.self order result c.loop-order.steps c.command.new.steps) c.loop-order.invariant.obeying.limit h.ticks in
    subst (λ l. TicksForScript (g.S.Strand.height_bound c.args.self.now.limit) c.args.self.now l c.args.steps.now c.command.new.steps) c.as_slice-order-items.ensures
    (failed_ticks (g.S.Strand.height_bound c.args.self.now.limit) c.args.self.now c.loop-order.self items c.loop-order.order-index order (g.K.Sink.bytes c.args.sink.now) (g.K.Sink.bytes c.loop-order.sink) c.args.steps.now c.loop-order.steps
    c.loop-order.invariant.obeying c.loop-order-test.true (get_or_default items c.loop-order.order-index (Step 0) order c.loop-order-test.true) c.command.new.self (Unit {0}) c.in_err-command.field-0.0 (g.K.Sink.bytes c.command.new.sink) c.command.new.steps
    h.commanded ticks)

pub loop-order-preserved : goal.loop-order-preserved
loop-order-preserved g c =
    let items = c.as_slice-order-items.result.now in
    let order = get_or items c.loop-order.order-index (Step 0) in
    let h = c.in_ok-command.ensures in
    let result : Result (Unit {0}) RewindError = Ok c.in_ok-command.field-0 in
    let ticks = subst (λ n. OrderTicks (g.S.Strand.height_bound n) c.loop-order.self c.command.new.self order result c.loop-order.steps c.command.new.steps) c.loop-order.invariant.obeying.limit h.ticks in
    record {
      obeying =
          obeying_more (g.S.Strand.height_bound c.args.self.now.limit) c.args.self.now c.loop-order.self items c.loop-order.order-index order (g.K.Sink.bytes c.args.sink.now) (g.K.Sink.bytes c.loop-order.sink) c.args.steps.now c.loop-order.steps
          c.loop-order.invariant.obeying c.loop-order-test.true (get_or_default items c.loop-order.order-index (Step 0) order c.loop-order-test.true) c.command.new.self (Unit {0}) c.in_ok-command.field-0 (g.K.Sink.bytes c.command.new.sink) c.command.new.steps
          h.commanded h.start h.limit h.known ticks;
      versions = h.versions;
      faults = h.no_fault (λ e. cc) ∙ c.loop-order.invariant.faults;
    }
