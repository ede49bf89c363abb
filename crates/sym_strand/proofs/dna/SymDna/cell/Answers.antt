use Rattle.std.proofs.Common.{◌+◌, ◌-◌, ◌<◌, ◌≤◌, ◌∙◌, drop, length, sym, ap, arith}
use Rattle.std.specs.Prelude.{slice_get}
use Rattle.sym_strand.specs.Segments.{cells_in, cells_of}
use Rattle.sym_strand.proofs.CellLemmas.{cells_left, get_front, get_behind}
use Rattle.sym_strand.proofs.dna.SymDna.cell.Goals as goal

pub returns-then-left-len : goal.returns-then-left-len
returns-then-left-len c =
    let s = c.seg-item.result in
    let inside : c.loop-seg.left < length (cells_in s) = omega (arith, c.len-len.ensures, c.if-left-len.true) in
    c.cell.ensures ∙ sym (get_front (cells_in s) (cells_of (drop (c.loop-seg.seg-index + 1) c.deref-seg-items.result.now)) c.loop-seg.left inside)
    ∙ ap (λ z. slice_get z c.loop-seg.left) (sym (cells_left c.deref-seg-items.result.now c.loop-seg.seg-index s c.loop-seg-test.true c.seg-item.is))
    ∙ sym c.loop-seg.invariant

pub loop-seg-preserved : goal.loop-seg-preserved
loop-seg-preserved c =
    let s = c.seg-item.result in
    let past : length (cells_in s) ≤ c.loop-seg.left = omega (arith, c.len-len.ensures, c.if-left-len.false) in
    let rest = cells_of (drop (c.loop-seg.seg-index + 1) c.deref-seg-items.result.now) in
    c.loop-seg.invariant
    ∙ ap (λ z. slice_get z c.loop-seg.left) (cells_left c.deref-seg-items.result.now c.loop-seg.seg-index s c.loop-seg-test.true c.seg-item.is)
    ∙ get_behind (cells_in s) rest c.loop-seg.left past
    ∙ ap (λ n. slice_get rest (c.loop-seg.left - n)) (sym c.len-len.ensures)
