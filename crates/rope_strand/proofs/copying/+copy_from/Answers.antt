use Rattle.std.proofs.Common.{◌≡◌, ◌-◌, ◌++◌, [], length, drop, ap, arith, length-drop}
use Rattle.std.proofs.lemmas.List.{drop_all}
use borrow.Rule.Slice.PartMut.{post_of}
use Rattle.rope_node.specs.Tree.{Tree}
use Rattle.rope_strand.proofs.Copied.{rest_past, copied_both}
use Rattle.rope_strand.proofs.copying.+copy_from.Goals as goal

pub returns-then-place-seam-clause-written : goal.returns-then-place-seam-clause-written
returns-then-place-seam-clause-written t c =
    let l = c.in-Pair.left.now.bases in
    let r = c.in-Pair.right.now.bases in
    let whole : c.args.node.now.bases ≡ l ++ r = ap (λ (t : Tree). t.bases) c.in-Pair.ensures.0 in
    let rest : drop c.args.place (l ++ r) ≡ drop (c.args.place - c.len-seam.result) r = rest_past c.args.place c.len-seam.result l r c.len-seam.ensures.length c.if-place-seam.true in
    rw (whole, rest) c.copy_from.ensures.written

pub returns-else-buf-seam-clause-written : goal.returns-else-buf-seam-clause-written
returns-else-buf-seam-clause-written t c =
    let l = c.in-Pair.left.now.bases in
    let r = c.in-Pair.right.now.bases in
    let whole : c.args.node.now.bases ≡ l ++ r = ap (λ (t : Tree). t.bases) c.in-Pair.ensures.0 in
    let mid = c.copy_from-first.new.buf in
    let first = c.copy_from-first.result in
    let none : post_of first (length mid - first) mid ≡ [] = drop_all (length mid - first) (drop first mid) (omega (arith, length-drop first mid)) in
    rw whole (copied_both l r c.args.buf.now c.copy_from-first.new.buf c.copy_from-in-Pair.new.buf _ c.copy_from-first.result c.copy_from-in-Pair.result c.args.place (omega (arith, c.len-seam.ensures.length)) (omega (arith, c.len-seam.ensures.length, c.copy_from-first.ensures.number)) (omega (arith, c.copy_from-first.ensures.number)) c.copy_from-first.ensures.written c.copy_from-in-Pair.ensures.written none)
