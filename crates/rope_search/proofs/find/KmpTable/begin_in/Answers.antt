use Rattle.std.proofs.Common.{◌≡◌, ◌+◌, ◌-◌, ◌≤◌, Some, None, length, ap, arith, subst}
use Rattle.rope_node.specs.Tree.{Tree}
use Rattle.rope_search.specs.Begins.{BeginsFirst}
use Rattle.rope_search.specs.Sought.{Searched}
use Rattle.rope_search.proofs.Going.{end_above}
use Rattle.rope_search.proofs.Beginning.{begins_found, begins_last, found_within}
use Rattle.rope_search.proofs.find.KmpTable.begin_in.Goals as goal

pub overflow_sub-result : goal.overflow_sub-result
overflow_sub-result c =
    let s = c.args.self.now in
    let d = c.in-Some.node.now.bases in
    let whole : d ≡ c.args.rope.now.bases = ap (λ (t : Tree). t.bases) c.in-Some.ensures.root in
    let is : Searched s d c.args.lo 0 (Some c.in-Some-end_of.end) c.end_of.new.found = c.in-Some-end_of.ensures in
    omega (arith, ap length c.self.view_is, end_above s d c.args.lo c.in-Some-end_of.end c.end_of.new.found (omega (arith, ap length whole)) is)

pub overflow_sub-result-in-None : goal.overflow_sub-result-in-None
overflow_sub-result-in-None c =
    let s = c.args.self.now in
    let d = c.in-Some.node.now.bases in
    let whole : d ≡ c.args.rope.now.bases = ap (λ (t : Tree). t.bases) c.in-Some.ensures.root in
    let is : Searched s d c.args.lo 0 None c.end_of.new.found = c.in-None.ensures in
    omega (arith, c.len-in-None.ensures.length, found_within s d c.args.lo c.end_of.new.found (omega (arith, ap length whole)) is)

pub returns-in-Some-end_of : goal.returns-in-Some-end_of
returns-in-Some-end_of c =
    let s = c.args.self.now in
    let d = c.in-Some.node.now.bases in
    let lo = c.args.lo in
    let end = c.in-Some-end_of.end in
    let whole : d ≡ c.args.rope.now.bases = ap (λ (t : Tree). t.bases) c.in-Some.ensures.root in
    let within : lo ≤ length d = omega (arith, ap length whole) in
    let is : Searched s d lo 0 (Some end) c.end_of.new.found = c.in-Some-end_of.ensures in
    let place = end - c.len-in-Some-end_of.result in
    let start : place + length s ≡ end = omega (arith, ap length c.self.view_is, end_above s d lo end c.end_of.new.found within is) in
    subst (λ e. BeginsFirst s e lo place) whole (begins_found s d lo end c.end_of.new.found place within is start)

pub returns-in-None : goal.returns-in-None
returns-in-None c =
    let s = c.args.self.now in
    let d = c.in-Some.node.now.bases in
    let lo = c.args.lo in
    let found = c.end_of.new.found in
    let whole : d ≡ c.args.rope.now.bases = ap (λ (t : Tree). t.bases) c.in-Some.ensures.root in
    let within : lo ≤ length d = omega (arith, ap length whole) in
    let is : Searched s d lo 0 None found = c.in-None.ensures in
    let place = c.len-in-None.result - found in
    let start : place + found ≡ length d = omega (arith, c.len-in-None.ensures.length, found_within s d lo found within is) in
    subst (λ e. BeginsFirst s e lo place) whole (begins_last s d lo found place within is start)
