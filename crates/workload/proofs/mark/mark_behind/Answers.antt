use Rattle.std.proofs.Common.{◌≡◌, [], drop, arith, ap, sym, ◌∙◌}
use Rattle.std.proofs.lemmas.List.{drop_all}
use Rattle.fuun_base.specs.declared.letters.Base.TheVariants.{I}
use Rattle.workload.specs.Mark.{mark_behind}
use Rattle.workload.proofs.Drawing.{mark_more}
use Rattle.workload.proofs.mark.mark_behind.Goals as goal

pub loop-base-preserved : goal.loop-base-preserved
loop-base-preserved c = mark_more c.args.bases.now c.loop-base.base-index c.loop-base.mark c.marked-mark.result _ I c.loop-base-test.true c.marked-mark.ensures c.loop-base.invariant

pub returns : goal.returns
returns c =
    let done : drop c.loop-base.base-index c.args.bases.now ≡ [] = drop_all c.loop-base.base-index c.args.bases.now (omega arith) in
    sym (ap (mark_behind c.loop-base.mark) done) ∙ c.loop-base.invariant
