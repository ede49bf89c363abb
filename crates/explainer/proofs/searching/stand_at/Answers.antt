use Rattle.std.proofs.Common.{arith}
use Rattle.explainer.proofs.ByPlaces.{sure_of, unsure_of}
use Rattle.explainer.proofs.FitLemmas.{rest_length, so_far_same_more, so_far_holes, out_along}
use Rattle.explainer.proofs.searching.stand_at.Goals as goal

pub loop-done-preserved-in-Same : goal.loop-done-preserved-in-Same
loop-done-preserved-in-Same c = record {
  within = omega (arith, c.in-Same.ensures.1, rest_length c.args.needle.now c.loop-done.done, c.loop-done.invariant.within);
  far = so_far_same_more c.args.needle.now c.args.dna.now c.args.place c.loop-done.done c.in-Same.count c.loop-done.sure c.loop-done.invariant.far c.in-Same.ensures;
}

pub loop-done-preserved : goal.loop-done-preserved
loop-done-preserved c = record {
  within = omega (arith, c.in-Holes.ensures.1, rest_length c.args.needle.now c.loop-done.done, c.loop-done.invariant.within);
  far = so_far_holes c.args.needle.now c.args.dna.now c.args.place c.loop-done.done c.in-Holes.count c.loop-done.sure c.loop-done.invariant.far c.in-Holes.ensures;
}

pub returns-in-Other : goal.returns-in-Other
returns-in-Other c = out_along c.args.needle.now c.args.dna.now c.args.place c.loop-done.done _ c.in-Other.ensures

pub returns-then-sure : goal.returns-then-sure
returns-then-sure c = sure_of c.args.needle.now c.args.dna.now c.args.place c.loop-done.done c.loop-done.sure c.loop-done.invariant.far c.loop-done-test.false c.requires c.if-sure.true

pub returns-else-sure : goal.returns-else-sure
returns-else-sure c = unsure_of c.args.needle.now c.args.dna.now c.args.place c.loop-done.done c.loop-done.sure c.loop-done.invariant.far c.loop-done.invariant.within c.loop-done-test.false c.requires c.if-sure.false
