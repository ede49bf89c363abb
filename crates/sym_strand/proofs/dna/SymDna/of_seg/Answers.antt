use Rattle.std.proofs.Common.{sym, subst, ap, ◌++◌, ◌∷◌, [], ◌∙◌}
use Rattle.sym_strand.specs.Kept.{IsKept}
use Rattle.sym_strand.proofs.CellLemmas.{one_kept}
use Rattle.sym_strand.proofs.dna.SymDna.of_seg.Goals as goal

pub invariant_of-result : goal.invariant_of-result
invariant_of-result c =
    subst (λ s. IsKept s c.len-len.result) (sym (c.in_ok-push.ensures.items ∙ ap (λ l. l ++ c.args.seg ∷ []) c.new-segs.ensures.items))
    (one_kept c.args.seg c.len-len.result c.requires.some c.requires.most c.len-len.ensures)
