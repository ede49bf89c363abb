use Rattle.std.proofs.Common.{◌≡◌, ◌-◌, ◌++◌, length, take, drop, ap, arith, length-append, length-drop, length-take}
use Rattle.rope_node.specs.Tree.{Tree}
use Rattle.rope_strand.proofs.Counted.{tallies_fit}
use Rattle.rope_strand.proofs.counting.+tally_within.Goals as goal

pub plus-requires : goal.plus-requires
plus-requires t c =
    let l = c.in-Pair.left.now.bases in
    let r = c.in-Pair.right.now.bases in
    let whole : length c.args.node.now.bases ≡ length (l ++ r) = ap (λ (t : Tree). length t.bases) c.in-Pair.ensures.0 in
    tallies_fit c.tally_from.result c.tally_before-in-Pair.result (drop c.args.lo l) (take (c.args.hi - c.len-seam.result) r) c.tally_from.ensures c.tally_before-in-Pair.ensures (omega (arith, length-append l r, length-drop c.args.lo l)) (omega (arith, length-append l r, length-take (c.args.hi - c.len-seam.result) r))
