use Rattle.std.proofs.Common.{sym, map}
use Rattle.std.specs.Prelude.{slice_range}
use Rattle.sym_strand.specs.declared.cells.Cell.TheVariants.{Known}
use Rattle.sym_strand.proofs.CellLemmas.{range-known, ok_same}
use Rattle.sym_strand.proofs.cutting.cut_bases.Goals as goal

pub returns : goal.returns
returns c =
    ok_same c.of_known.result (map Known (slice_range c.args.bases.now c.args.from c.args.to)) (slice_range (map Known c.args.bases.now) c.args.from c.args.to) c.of_known.ensures
    (sym (range-known c.args.bases.now c.args.from c.args.to))
