use Rattle.std.proofs.Common.{◌≡◌, ◌++◌, ap, arith}
use Rattle.std.proofs.lemmas.Result.{on_ok_weaker}
use Rattle.rope_node.specs.Tree.{Tree}
use Rattle.rope_strand.proofs.Quoted.{quoted_both}
use Rattle.rope_strand.proofs.quoting.+quote_within.Goals as goal

pub returns-in_ok-quote_within-in-Pair : goal.returns-in_ok-quote_within-in-Pair
returns-in_ok-quote_within-in-Pair t c =
    let l = c.in-Pair.left.now.bases in
    let r = c.in-Pair.right.now.bases in
    let whole : c.args.node.now.bases ≡ l ++ r = ap (λ (t : Tree). t.bases) c.in-Pair.ensures.0 in
    rw whole (on_ok_weaker c.quote_within-in-Pair-2.result
    (λ second. quoted_both l r c.args.out.now.items c.quote_within-in-Pair.new.out.items c.quote_within-in-Pair-2.new.out.items c.args.lo c.args.hi c.len-seam.result c.len-seam.ensures.length (omega arith) (omega arith) c.in_ok-quote_within-in-Pair.ensures second)
    c.quote_within-in-Pair-2.ensures)
