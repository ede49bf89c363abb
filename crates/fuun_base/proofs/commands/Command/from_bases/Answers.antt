use Rattle.std.proofs.Common.{arith, ◌≡◌, ◌-◌, List, ◌++◌, length, drop, replicate}
use Rattle.std.proofs.lemmas.Grind.{common_steps}
use Rattle.std.proofs.lemmas.List.{drop-replicate}
use Rattle.std.proofs.Math.Seq.{drop-append_seam}
use Rattle.fuun_base.specs.declared.letters.Base.{Base}
use Rattle.fuun_base.specs.declared.letters.Base.TheVariants.{I}
use Rattle.fuun_base.proofs.commands.Command.from_bases.Goals as goal

rest_unused : (bases written : List Base) → written ≡ bases → drop (length bases) (written ++ drop (length bases) (replicate 7 I)) ≡ replicate (7 - length bases) I
rest_unused bases written same =
    rw same (rw (drop-append_seam bases (drop (length bases) (replicate 7 I))) (drop-replicate (length bases) 7 I))

pub invariant_of-result : goal.invariant_of-result
invariant_of-result c = record {
  places = grind (arith, common_steps);
  room = omega arith;
  unused = rest_unused c.args.bases.now c.copy_from_slice.new.self c.copy_from_slice.ensures.after;
}
