use Rattle.std.proofs.Common.{◌-◌, arith, ap, length}
use Rattle.std.proofs.lemmas.List.{length-map}
use Rattle.sym_strand.specs.declared.cells.Cell.TheVariants.{Known}
use Rattle.sym_strand.proofs.Places.{length-places}
use Rattle.sym_strand.proofs.dna.SymDna.start.Goals as goal

pub of_target-requires : goal.of_target-requires
of_target-requires c = omega (arith, length-places 0 (c.args.target - 0))

pub take-requires : goal.take-requires
take-requires c = omega (arith, length-places 0 (c.args.target - 0), ap length c.in_ok-dna.ensures, ap length c.in_ok-of_target.ensures, length-map c.args.prefix.now Known)
