use Rattle.std.proofs.Common.{◌≡◌, length, ap, sym, ◌∙◌, arith}
use Rattle.fuun_base.specs.Tally.{tally_of}
use Rattle.rope_node.specs.Tree.{leaf}
use Rattle.rope_node.proofs.node.Node.leaf.Goals as goal

pub made-requires : goal.made-requires
made-requires g c =
    let same : length c.in_ok-from_slice.field-0.items ≡ length c.args.bases.now = ap length c.in_ok-from_slice.ensures.items in
    record { tree = leaf _ (omega arith) (omega arith); most = omega arith; numbers = (omega arith, omega arith); tally = c.of.ensures ∙ ap tally_of (sym c.in_ok-from_slice.ensures.items) }
