use Rattle.std.proofs.Common.{length, ap, arith, length-append}
use Rattle.cell_rope.specs.Tree.{Tree}
use Rattle.cell_rope.proofs.FrontLemmas.{front_most}
use Rattle.cell_rope.proofs.fronts.+known_front.Goals as goal

pub join-requires : goal.join-requires
join-requires g t c =
    let left = c.in-Pair.left.now in
    let right = c.in-Pair.right.now in
    omega (arith, c.len-len.ensures.most, ap (λ (t : Tree). length t.cells) c.in-Pair.ensures, length-append left.cells right.cells, ap length c.in_ok-front-in-Pair.ensures, ap length c.in_ok-more-in-Pair.ensures, front_most left.cells, front_most right.cells)
