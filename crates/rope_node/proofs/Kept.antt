-- What a new node keeps.
use Rattle.std.proofs.Common.{◌≡◌, ℕ, ◌+◌, ◌^◌, ◌≤◌, max, List, ◌++◌, length, subst, sym, ◌∙◌, arith, length-append}
use Rattle.fuun_base.specs.declared.letters.Base.{Base}
use Rattle.fuun_base.specs.declared.tally.Tally.{Tally}
use Rattle.fuun_base.specs.Tally.{tally_of, tally_sum, tally_total}
use Rattle.fuun_base.proofs.Counting.{tally_of-append, tally_total-tally_of}
use Rattle.rope_node.specs.Tree.{Tree, IsNear, IsTree, pair}
use Rattle.rope_node.specs.Body.{IsKept}
use Rattle.rope_node.specs.declared.node.Body.TheVariants.{Pair}

-- two trees, as they come back from being shared
pub kept_pair : (l r l' r' : Tree) (len height : ℕ) (tally : Tally) → l' ≡ l → r' ≡ r → IsTree l → IsTree r → IsNear l.height r.height → len ≡ length l.bases + length r.bases → len ≤ 2 ^ 41 → height ≡ max l.height r.height + 1 → tally ≡ tally_sum (tally_of l.bases) (tally_of r.bases) → IsKept (Pair l' r' len height tally)
kept_pair l r l' r' len height tally same same' left right near total most higher counted =
    let joined : length (l.bases ++ r.bases) ≡ length l.bases + length r.bases = length-append l.bases r.bases in
    let kept : IsKept (Pair l r len height tally) = record { tree = pair l r left right near; most = omega arith; numbers = (near, omega arith, higher); tally = counted ∙ sym (tally_of-append l.bases r.bases) } in
    subst (λ (t : Tree). IsKept (Pair t r' len height tally)) (sym same) (subst (λ (t : Tree). IsKept (Pair l t len height tally)) (sym same') kept)

-- a tally of bases counts each of them once
pub counted_total : (tally : Tally) (d : List Base) → tally ≡ tally_of d → tally_total tally ≡ length d
counted_total tally d counted = rw counted (tally_total-tally_of d)
