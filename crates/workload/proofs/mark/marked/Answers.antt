use Rattle.std.proofs.Common.{ap, ◌∙◌, ◌+◌, ◌*◌, ◌%◌}
use Rattle.workload.specs.Mark.{marked}
use Rattle.workload.proofs.Drawing.{wrapped}
use Rattle.workload.proofs.mark.marked.Goals as goal

pub returns : goal.returns
unfolding marked
returns c = wrapped c.args.mark c.code.result ∙ ap (λ k. (31 * c.args.mark + k) % 4294967296) c.code.ensures.value
