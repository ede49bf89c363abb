use Rattle.std.proofs.Common.{get_or, refl}
use Rattle.fuun_base.proofs.DecimalLemmas.{value_more}
use Rattle.fuun_base.proofs.decimals.value_up_to.Goals as goal

pub loop-digit-preserved : goal.loop-digit-preserved
loop-digit-preserved c =
    let step = value_more c.args.digits.now c.loop-digit.digit-index c.args.most c.loop-digit.value (get_or c.args.digits.now c.loop-digit.digit-index 0) c.requires c.loop-digit-test.true refl c.loop-digit.invariant in
    rw (c.min-value.ensures, c.from.ensures, c.from-above.ensures) step
