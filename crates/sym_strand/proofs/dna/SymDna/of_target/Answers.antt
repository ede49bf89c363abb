use Rattle.std.proofs.Common.{◌-◌, arith, sym, ◌∙◌}
use Rattle.sym_strand.proofs.Places.{length-places}
use Rattle.sym_strand.proofs.CellLemmas.{nothing_there}
use Rattle.sym_strand.proofs.dna.SymDna.of_target.Goals as goal

pub returns-then-hi-lo : goal.returns-then-hi-lo
returns-then-hi-lo c = c.empty.ensures ∙ sym (nothing_there c.args.lo c.args.hi c.if-hi-lo.true)

pub of_seg-requires-clause-some : goal.of_seg-requires-clause-some
of_seg-requires-clause-some c = omega (arith, length-places c.args.lo (c.args.hi - c.args.lo))
