use Rattle.std.proofs.Common.{◌≡◌, ℕ, ◌+◌, ◌-◌, ◌<◌, ◌≤◌, ◌^◌, length, take, refl, subst, sym, arith}
use Rattle.std.proofs.lemmas.List.{length-take-le}
use Rattle.rope_node.specs.Tree.{Tree}
use Rattle.rope_search.specs.Begins.{BeginsFirst}
use Rattle.explainer.specs.Open.{OutBut, FrontIsThere}
use Rattle.explainer.proofs.OpenLemmas.{begins_goes, begins_there, fronts_take, goes_more}
use Rattle.explainer.proofs.open_places.open_known.Goals as goal

pub overflow_add-first : goal.overflow_add-first
overflow_add-first c =
    let begins : BeginsFirst c.args.table.now c.args.strand.now.bases c.args.from c.begin_in-begin.result =
    subst (λ (t : Tree). BeginsFirst c.args.table.now t.bases c.args.from c.begin_in-begin.result) c.rope.ensures c.begin_in-begin.ensures in
    let h : c.args.place + (c.begin_in-begin.result - c.args.from) < 2 ^ 64 = omega (arith, begins.within, c.requires.most, c.len-len.ensures.most) in
    omega arith

pub returns-then-count-eq0-clause-goes : goal.returns-then-count-eq0-clause-goes
returns-then-count-eq0-clause-goes c =
    let begins : BeginsFirst c.args.table.now c.args.strand.now.bases c.args.from c.begin_in-begin.result =
    subst (λ (t : Tree). BeginsFirst c.args.table.now t.bases c.args.from c.begin_in-begin.result) c.rope.ensures c.begin_in-begin.ensures in
    λ z there.
    begins_goes c.args.table.now c.args.strand.now.bases z c.args.begun.now.items c.args.place c.args.from c.begin_in-begin.result (c.args.place + (c.begin_in-begin.result - c.args.from)) there begins refl

pub returns-then-count-fronts-clause-goes : goal.returns-then-count-fronts-clause-goes
returns-then-count-fronts-clause-goes c =
    let begins : BeginsFirst c.args.table.now c.args.strand.now.bases c.args.from c.begin_in-begin.result =
    subst (λ (t : Tree). BeginsFirst c.args.table.now t.bases c.args.from c.begin_in-begin.result) c.rope.ensures c.begin_in-begin.ensures in
    let first : ℕ = c.args.place + (c.begin_in-begin.result - c.args.from) in
    λ z there.
    goes_more c.args.table.now z c.args.begun.now.items c.args.place c.args.begun.now.items c.push.new.self.items first (first + 1)
    (begins_goes c.args.table.now c.args.strand.now.bases z c.args.begun.now.items c.args.place c.args.from c.begin_in-begin.result first there begins refl) c.in_ok-push.ensures.items refl

pub returns-clause-goes : goal.returns-clause-goes
returns-clause-goes c =
    let s = c.args.table.now in
    let d = c.args.strand.now.bases in
    let begin = c.begin_in-begin.result in
    let begins : BeginsFirst s d c.args.from begin =
    subst (λ (t : Tree). BeginsFirst c.args.table.now t.bases c.args.from c.begin_in-begin.result) c.rope.ensures c.begin_in-begin.ensures in
    let first : ℕ = c.args.place + (begin - c.args.from) in
    let count : ℕ = c.len-len.result - begin in
    let fronts = c.args.fronts.now in
    let less : count ≤ length fronts = omega (arith, c.if-count-fronts.false) in
    let most : count ≤ length s = omega (arith, less, c.requires.fronts.count) in
    let number : count ≡ length d - begin = omega (arith, c.len-len.ensures.length) in
    let size : length (take count fronts) ≡ count = length-take-le count fronts less in
    λ z there from far.
    subst (λ n. OutBut s z from c.open_repeats.new.begun.items (first + n)) size
    (c.in_ok-open_repeats.ensures s z (fronts_take s fronts count c.requires.fronts less) (omega arith)
    (subst (λ n. FrontIsThere s n z first) (sym size) (begins_there s d z c.args.place c.args.from begin first count there begins refl number most))
    from (begins_goes s d z c.args.begun.now.items c.args.place c.args.from begin first there begins refl from far))
