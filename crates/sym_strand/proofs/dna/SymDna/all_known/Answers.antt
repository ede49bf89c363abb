use Rattle.std.proofs.Common.{◌∙◌, sym, subst}
use Rattle.sym_strand.specs.Runs.{IsTidy}
use Rattle.sym_strand.proofs.CellLemmas.{not_all_known, known_passed}
use Rattle.sym_strand.proofs.dna.SymDna.all_known.Goals as goal

pub returns-in-Target : goal.returns-in-Target
returns-in-Target c =
    let tidy : IsTidy c.deref-seg-items.result.now = subst IsTidy (sym c.deref-seg-items.ensures.value) c.self.invariant.tidy in
    sym (c.loop-seg.invariant ∙ not_all_known c.deref-seg-items.result.now c.loop-seg.seg-index c.seg-item.result c.in-Target.lo c.in-Target.hi tidy c.loop-seg-test.true c.seg-item.is c.in-Target.is)

pub loop-seg-preserved : goal.loop-seg-preserved
loop-seg-preserved c =
    c.loop-seg.invariant ∙ known_passed c.deref-seg-items.result.now c.loop-seg.seg-index c.seg-item.result c.in-Known.field-0 c.loop-seg-test.true c.seg-item.is c.in-Known.is
