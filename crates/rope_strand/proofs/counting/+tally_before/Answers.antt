use Rattle.std.proofs.Common.{◌≡◌, ◌-◌, ◌++◌, length, take, ap, arith, length-append, length-take}
use Rattle.rope_node.specs.Tree.{Tree}
use Rattle.rope_strand.proofs.Counted.{tallies_fit}
use Rattle.rope_strand.proofs.counting.+tally_before.Goals as goal

pub plus-requires : goal.plus-requires
plus-requires t c =
    let l = c.in-Pair.left.now.bases in
    let r = c.in-Pair.right.now.bases in
    let part = take (c.args.hi - c.len-seam.result) r in
    let whole : length c.args.node.now.bases ≡ length (l ++ r) = ap (λ (t : Tree). length t.bases) c.in-Pair.ensures.0 in
    tallies_fit c.tally-in-Pair.result c.tally_before-in-Pair.result l part c.tally-in-Pair.ensures.tally c.tally_before-in-Pair.ensures (omega (arith, length-append l r)) (omega (arith, length-append l r, length-take (c.args.hi - c.len-seam.result) r))
