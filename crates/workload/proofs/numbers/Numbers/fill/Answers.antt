use Rattle.std.proofs.Common.{ap, sym, arith, ◌∙◌}
use Rattle.std.proofs.Math.ListN.{length-set}
use Rattle.workload.specs.Numbers.{behind}
use Rattle.workload.proofs.Drawing.{behind_more, filled_more}
use Rattle.workload.proofs.numbers.Numbers.fill.Goals as goal

pub loop-index-preserved : goal.loop-index-preserved
loop-index-preserved c =
    let index = c.loop-index.index in
    let before = c.loop-index.invariant in
    record {
      state = c.base.ensures.state ∙ ap (behind 1) before.state ∙ sym (behind_more index c.args.self.now);
      filled = filled_more c.loop-index.slots index c.args.self.now c.loop-index.self c.base.result (omega (arith, before.len, c.loop-index-test.true)) before.filled before.state c.base.ensures.value;
      len = length-set c.loop-index.slots index c.base.result ∙ before.len;
    }
