use Rattle.std.proofs.Common.{arith}
use Rattle.flood.proofs.Parts.{Continues-done}
use Rattle.flood.proofs.spread.spread_from.Goals as goal

pub returns-clause-goes_on : goal.returns-clause-goes_on
returns-clause-goes_on g c =
    Continues-done _ _ _ _ _ _ _ _ _ c.args.span _ _ c.spread_to.ensures.goes_on c.spread_to-2.ensures.goes_on (λ some. omega arith) (omega arith) c.spread_to.ensures.clear c.spread_to-2.ensures.clear
