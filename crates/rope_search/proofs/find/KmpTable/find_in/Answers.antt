use Rattle.std.proofs.Common.{◌≡◌, ◌+◌, ◌-◌, ◌≤◌, Some, None, length, ap, arith, subst}
use Rattle.rope_node.specs.Tree.{Tree}
use Rattle.fuun_base.specs.Occurrence.{IsFirst, IsAbsent}
use Rattle.rope_search.specs.Sought.{Searched}
use Rattle.rope_search.proofs.Going.{end_above, first_of_searched, absent_of_searched}
use Rattle.rope_search.proofs.find.KmpTable.find_in.Goals as goal

pub overflow_sub-result : goal.overflow_sub-result
overflow_sub-result c =
    let s = c.args.self.now in
    let d = c.in_ok-node.node.now.bases in
    let whole : d ≡ c.args.rope.now.bases = ap (λ (t : Tree). t.bases) c.in_ok-node.ensures.root in
    let is : Searched s d c.args.lo 0 (Some c.in-Some.end) c.end_of.new.found = c.in-Some.ensures in
    omega (arith, ap length c.self.view_is, end_above s d c.args.lo c.in-Some.end c.end_of.new.found (omega (arith, ap length whole)) is)

pub returns-in-Some : goal.returns-in-Some
returns-in-Some c =
    let s = c.args.self.now in
    let d = c.in_ok-node.node.now.bases in
    let lo = c.args.lo in
    let end = c.in-Some.end in
    let whole : d ≡ c.args.rope.now.bases = ap (λ (t : Tree). t.bases) c.in_ok-node.ensures.root in
    let within : lo ≤ length d = omega (arith, ap length whole) in
    let is : Searched s d lo 0 (Some end) c.end_of.new.found = c.in-Some.ensures in
    let place = end - c.len-in-Some.result in
    let start : place + length s ≡ end = omega (arith, ap length c.self.view_is, end_above s d lo end c.end_of.new.found within is) in
    subst (λ e. IsFirst s e lo place) whole (first_of_searched s d lo end c.end_of.new.found place within is start)

pub returns-in-None : goal.returns-in-None
returns-in-None c =
    let s = c.args.self.now in
    let d = c.in_ok-node.node.now.bases in
    let lo = c.args.lo in
    let whole : d ≡ c.args.rope.now.bases = ap (λ (t : Tree). t.bases) c.in_ok-node.ensures.root in
    let is : Searched s d lo 0 None c.end_of.new.found = c.in-None.ensures in
    subst (λ e. IsAbsent s e lo) whole (absent_of_searched s d lo c.end_of.new.found (omega (arith, ap length whole)) is)
