use Rattle.std.proofs.Common.{◌≡◌, ◌++◌, length, drop, ap, arith, length-append, length-drop}
use Rattle.std.proofs.lemmas.List.{drop-append-le}
use Rattle.fuun_base.proofs.Counting.{tally_of-append}
use Rattle.rope_node.specs.Tree.{Tree}
use Rattle.rope_strand.proofs.Counted.{tallies_fit}
use Rattle.rope_strand.proofs.counting.+tally_from.Goals as goal

pub plus-requires : goal.plus-requires
plus-requires t c =
    let l = c.in-Pair.left.now.bases in
    let r = c.in-Pair.right.now.bases in
    let whole : length c.args.node.now.bases ≡ length (l ++ r) = ap (λ (t : Tree). length t.bases) c.in-Pair.ensures.0 in
    tallies_fit c.tally_from-in-Pair.result c.tally-in-Pair.result (drop c.args.lo l) r c.tally_from-in-Pair.ensures c.tally-in-Pair.ensures.tally (omega (arith, length-append l r, length-drop c.args.lo l)) (omega (arith, length-append l r))

pub returns-else-lo-seam : goal.returns-else-lo-seam
returns-else-lo-seam t c =
    let l = c.in-Pair.left.now.bases in
    let r = c.in-Pair.right.now.bases in
    let whole : c.args.node.now.bases ≡ l ++ r = ap (λ (t : Tree). t.bases) c.in-Pair.ensures.0 in
    let cut : drop c.args.lo (l ++ r) ≡ drop c.args.lo l ++ r = drop-append-le c.args.lo l r (omega arith) in
    rw (whole, cut, tally_of-append (drop c.args.lo l) r, ← c.tally_from-in-Pair.ensures, ← c.tally-in-Pair.ensures.tally) c.plus.ensures
