use Rattle.std.proofs.Common.{sym, subst}
use Rattle.sym_strand.specs.Segments.{StandFor}
use Rattle.sym_strand.proofs.Tidy.{tidy_fewest}
use Rattle.sym_strand.proofs.dna.SymDna.into_segs.Goals as goal

pub returns : goal.returns
returns c = subst (λ s. StandFor s c.args.self) (sym c.from_vec.ensures) (tidy_fewest c.self.inside.segs.items c.args.self c.self.invariant.tidy c.self.view_is)
