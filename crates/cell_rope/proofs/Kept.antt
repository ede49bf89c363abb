-- What a new node keeps.
use Rattle.std.proofs.Common.{◌≡◌, ℕ, ◌+◌, ◌-◌, ◌^◌, ◌≤◌, Bool, ◌++◌, length, subst, sym, arith, length-append}
use Rattle.sym_strand.specs.Cells.{all_known}
use Rattle.sym_strand.proofs.Places.{length-places}
use Rattle.cell_rope.specs.Tree.{Tree}
use Rattle.cell_rope.specs.Body.{IsKept}
use Rattle.cell_rope.specs.declared.node.Body.TheVariants.{Target, Pair}

pub kept_target : (lo hi : ℕ) → lo ≤ hi → hi - lo ≤ 2 ^ 41 → IsKept (Target lo hi)
kept_target lo hi order most = record { most = omega (arith, length-places lo (hi - lo)); numbers = order }

-- two trees, as they come back from being shared
pub kept_pair : (l r l' r' : Tree) (len height : ℕ) (known : Bool) → l' ≡ l → r' ≡ r → len ≡ length l.cells + length r.cells → length l.cells + length r.cells ≤ 2 ^ 41 → known ≡ all_known (l.cells ++ r.cells) → IsKept (Pair l' r' len height known)
kept_pair l r l' r' len height known same same' total most is =
    let joined : length (l.cells ++ r.cells) ≡ length l.cells + length r.cells = length-append l.cells r.cells in
    let kept : IsKept (Pair l r len height known) = record { most = omega arith; numbers = (omega arith, is) } in
    subst (λ (t : Tree). IsKept (Pair t r' len height known)) (sym same) (subst (λ (t : Tree). IsKept (Pair l t len height known)) (sym same') kept)
