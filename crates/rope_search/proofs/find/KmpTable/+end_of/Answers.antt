use Rattle.std.proofs.Common.{◌≡◌, ◌+◌, ◌++◌, length, Some, option_map, ap, arith, subst, sym}
use Rattle.rope_node.specs.Tree.{Tree}
use Rattle.rope_search.specs.Sought.{Searched}
use Rattle.rope_search.proofs.Going.{searched_left, searched_right, searched_both, searched_rest}
use Rattle.rope_search.proofs.find.KmpTable.+end_of.Goals as goal

pub returns-in-Leaf : goal.returns-in-Leaf
returns-in-Leaf t c =
    let s = c.args.self.now in
    let d = c.in-Leaf.bases.now in
    let whole : c.args.node.now.bases ≡ d = ap (λ (t : Tree). t.bases) c.in-Leaf.ensures.0 in
    rw c.moved_by.ensures (subst (λ e. Searched s e c.args.lo c.args.found.now (option_map (λ n. c.args.lo + n) c.end_in.result) c.end_in.new.found) (sym whole)
    (searched_rest s d c.args.lo c.args.found.now c.end_in.result c.end_in.new.found (omega (arith, ap length whole)) c.end_in.ensures))

pub returns-then-lo-seam : goal.returns-then-lo-seam
returns-then-lo-seam t c =
    let s = c.args.self.now in
    let l = c.in-Pair.left.now.bases in
    let r = c.in-Pair.right.now.bases in
    let seam = c.len-seam.result in
    let whole : c.args.node.now.bases ≡ l ++ r = ap (λ (t : Tree). t.bases) c.in-Pair.ensures.0 in
    rw c.moved_by-then-lo-seam.ensures (subst (λ e. Searched s e c.args.lo c.args.found.now (option_map (λ n. seam + n) c.end_of.result) c.end_of.new.found) (sym whole)
    (searched_right s l r c.args.lo c.args.found.now c.end_of.result c.end_of.new.found seam c.len-seam.ensures.length c.if-lo-seam.true c.end_of.ensures))

pub returns-in-Some : goal.returns-in-Some
returns-in-Some t c =
    let s = c.args.self.now in
    let l = c.in-Pair.left.now.bases in
    let r = c.in-Pair.right.now.bases in
    let whole : c.args.node.now.bases ≡ l ++ r = ap (λ (t : Tree). t.bases) c.in-Pair.ensures.0 in
    subst (λ e. Searched s e c.args.lo c.args.found.now (Some c.in-Some.end) c.end_of-in-Pair.new.found) (sym whole)
    (searched_left s l r c.args.lo c.args.found.now c.in-Some.end c.end_of-in-Pair.new.found c.in-Some.ensures)

pub returns-in_default : goal.returns-in_default
returns-in_default t c =
    let s = c.args.self.now in
    let l = c.in-Pair.left.now.bases in
    let r = c.in-Pair.right.now.bases in
    let seam = c.len-seam.result in
    let whole : c.args.node.now.bases ≡ l ++ r = ap (λ (t : Tree). t.bases) c.in-Pair.ensures.0 in
    let o = c.end_of-in-Pair-2.result in
    let h = c.end_of-in-Pair-2.new.found in
    rw c.moved_by-in-Pair.ensures (subst (λ e. Searched s e c.args.lo c.args.found.now (option_map (λ n. seam + n) o) h) (sym whole)
    (searched_both s l r c.args.lo c.args.found.now c.end_of-in-Pair.new.found o h seam c.len-seam.ensures.length c.in_default.ensures c.end_of-in-Pair-2.ensures))
