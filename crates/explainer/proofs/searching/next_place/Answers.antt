use Rattle.std.proofs.Common.{◌+◌, ◌-◌, ◌<◌, ◌^◌, subst, arith}
use Rattle.rope_node.specs.Tree.{Tree}
use Rattle.rope_search.specs.Begins.{BeginsFirst}
use Rattle.explainer.proofs.FitLemmas.{begins_within, out_before}
use Rattle.explainer.proofs.searching.next_place.Goals as goal

pub returns-in-Known-clause-within : goal.returns-in-Known-clause-within
returns-in-Known-clause-within c =
    let begins : BeginsFirst c.args.table.now c.in-Known.strand.now.bases c.in-Known.from c.begin_in.result =
    subst (λ (t : Tree). BeginsFirst c.args.table.now t.bases c.in-Known.from c.begin_in.result) c.rope.ensures c.begin_in.ensures in
    begins_within c.in-Known.strand.now.bases c.args.dna.now c.in-Known.ensures.rest c.args.place c.in-Known.from c.begin_in.result c.in-Known.ensures.cells c.requires begins.after begins.within

pub overflow_add-result : goal.overflow_add-result
overflow_add-result c =
    let begins : BeginsFirst c.args.table.now c.in-Known.strand.now.bases c.in-Known.from c.begin_in.result =
    subst (λ (t : Tree). BeginsFirst c.args.table.now t.bases c.in-Known.from c.begin_in.result) c.rope.ensures c.begin_in.ensures in
    let h : c.args.place + (c.begin_in.result - c.in-Known.from) < 2 ^ 64 =
    omega (arith, c.len.ensures.most, begins_within c.in-Known.strand.now.bases c.args.dna.now c.in-Known.ensures.rest c.args.place c.in-Known.from c.begin_in.result c.in-Known.ensures.cells c.requires begins.after begins.within) in
    omega arith

pub returns-in-Known-clause-out : goal.returns-in-Known-clause-out
returns-in-Known-clause-out c =
    out_before c.args.table.now c.in-Known.strand.now.bases c.args.dna.now c.in-Known.ensures.rest c.args.place c.in-Known.from c.begin_in.result c.in-Known.ensures.cells
    (subst (λ (t : Tree). BeginsFirst c.args.table.now t.bases c.in-Known.from c.begin_in.result) c.rope.ensures c.begin_in.ensures)
