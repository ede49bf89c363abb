use Rattle.std.proofs.Common.{sym, subst}
use Rattle.std.specs.Option.{MatchOption}
use Rattle.source_code.specs.Kept.{IsFound}
use Rattle.source_code.specs.Lengths.{IsBig}
use Rattle.source_code.proofs.Climb.{climbs_big, climbs_found, climbs_less, climbs_more}
use Rattle.source_code.proofs.lengths.own_len.Goals as goal

pub returns-in_err-len : goal.returns-in_err-len
returns-in_err-len c =
    subst (λ r. MatchOption r (IsBig c.args.behind.now c.args.line.now) (λ own. IsFound c.args.behind.now c.args.line.now own)) (sym c.from_residual.ensures)
    (climbs_big c.args.behind.now c.args.line.now c.loop-len.own c.loop-len.invariant c.in_err-len.ensures)

pub returns-then-len-own : goal.returns-then-len-own
returns-then-len-own c =
    climbs_found c.args.behind.now c.args.line.now c.loop-len.own c.in_ok-len.len c.loop-len.invariant c.in_ok-len.ensures.0 c.in_ok-len.ensures.1 c.if-len-own.true

pub loop-len-smaller : goal.loop-len-smaller
loop-len-smaller c = climbs_less c.loop-len.own c.in_ok-len.len _ c.in_ok-len.ensures.1 c.if-len-own.false

pub loop-len-preserved : goal.loop-len-preserved
loop-len-preserved c = climbs_more c.args.behind.now c.args.line.now c.loop-len.own c.in_ok-len.len c.loop-len.invariant c.in_ok-len.ensures.1 c.if-len-own.false
