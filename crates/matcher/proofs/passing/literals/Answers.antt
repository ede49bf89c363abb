use Rattle.std.proofs.Common.{arith}
use Rattle.std.proofs.lemmas.List.{length-set}
use Rattle.fuun_base.specs.declared.letters.Base.{Base}
use Rattle.matcher.proofs.Runs.{literals_more}
use Rattle.matcher.proofs.passing.literals.Goals as goal

pub loop-count-preserved : goal.loop-count-preserved
loop-count-preserved c = record {
  long = omega (arith, length-set {A = Base});
  fits = omega arith;
  within = omega arith;
  are = literals_more _ _ _ _ _ c.loop-count.invariant.are c.if-count-items.true (omega arith) c.index-items-count.is c.in-Base.is;
}
