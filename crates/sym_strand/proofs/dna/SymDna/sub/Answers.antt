use Rattle.std.proofs.Common.{◌≡◌, ◌+◌, ◌-◌, min, length, take, arith, ap, ◌++◌, ◌∙◌}
use Rattle.std.specs.Prelude.{slice_range}
use Rattle.sym_strand.specs.Segments.{cells_in, cells_of}
use Rattle.sym_strand.proofs.CellLemmas.{sub_more, start_more, passed_most}
use Rattle.sym_strand.proofs.dna.SymDna.sub.Goals as goal

pub overflow_add-start : goal.overflow_add-start
overflow_add-start c =
    let segs = c.deref-seg-items.result.now in
    let k = c.loop-seg.seg-index in
    let s = c.seg-item.result in
    let same = ap (λ l. length (cells_of l)) c.deref-seg-items.ensures.value in
    let start = c.loop-seg.invariant.start in
    omega (arith, start_more segs k s c.loop-seg-test.true c.seg-item.is, passed_most segs (k + 1), same, start, c.len-len.ensures, c.self.invariant.length, c.self.invariant.most)

pub loop-seg-preserved : goal.loop-seg-preserved
loop-seg-preserved c =
    let segs = c.deref-seg-items.result.now in
    let k = c.loop-seg.seg-index in
    let s = c.seg-item.result in
    let at = c.loop-seg.invariant.start in
    let len = c.len-len.ensures in
    let from : c.min-from.result ≡ min (length (cells_in s)) (c.args.lo - c.loop-seg.start) = c.min-from.ensures ∙ ap (λ n. min c.len-len.result n) c.saturating_sub.ensures ∙ ap (λ n. min n (c.args.lo - c.loop-seg.start)) len in
    let to : c.min-to.result ≡ min (length (cells_in s)) (c.args.hi - c.loop-seg.start) = c.min-to.ensures ∙ ap (λ n. min c.len-len.result n) c.saturating_sub-in-loop-seg.ensures ∙ ap (λ n. min n (c.args.hi - c.loop-seg.start)) len in
    record {
      part =
          c.in_ok-take.ensures.added ∙ ap (λ z. z ++ c.in_ok-cut.field-0) c.loop-seg.invariant.part
          ∙ ap (λ z. slice_range (cells_of (take k segs)) c.args.lo c.args.hi ++ z) (c.in_ok-cut.ensures ∙ ap (λ n. slice_range (cells_in s) n c.min-to.result) from ∙ ap (λ n. slice_range (cells_in s) (min (length (cells_in s)) (c.args.lo - c.loop-seg.start)) n) to)
          ∙ sub_more segs k s c.args.lo c.args.hi c.loop-seg.start c.requires.order c.loop-seg-test.true c.seg-item.is at;
      start = ap (λ n. n + c.len-len.result) at ∙ ap (λ n. length (cells_of (take k segs)) + n) len ∙ start_more segs k s c.loop-seg-test.true c.seg-item.is;
    }
