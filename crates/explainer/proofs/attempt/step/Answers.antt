use Rattle.std.proofs.Common.{◌^◌, ◌≤◌, Result, Ok, Err, IfOk, length, refl, arith}
use Rattle.std.proofs.lemmas.Option.{MatchOption-at_some, MatchOption-at_none}
use Rattle.sym_strand.specs.Cells.{all_known}
use Rattle.explainer.proofs.Filled.{front_most}
use Rattle.explainer.proofs.MadeOnCells.{ran_out, items_lifted}
use Rattle.explainer.proofs.attempt.step.Goals as goal

weaker : {A E : Type 0} (result : Result A E) (P Q : A → Type 0) → ((x : A) → P x → Q x) → IfOk result P → IfOk result Q
weaker (Ok x) P Q more p = more x p
weaker (Err e) P Q more p = tt

pub rewrite-requires-clause-place : goal.rewrite-requires-clause-place
rewrite-requires-clause-place g c = omega (arith, MatchOption-at_some _ _ c.in-Some.pair c.in-Some.is c.in_ok-pair.ensures.within, front_most c.args.dna.now)

pub returns-in-Some : goal.returns-in-Some
returns-in-Some g c =
    let pair = c.in-Some.pair in
    let small : length c.args.dna.now ≤ 2 ^ 40 = omega (arith, c.requires.limit, c.requires.within) in
    weaker c.rewrite.result _ _
    (λ next. items_lifted c.args.dna.now c.args.limit c.args.rna.now c.read_front.new.rna pair.pattern pair.template pair.next
    (MatchOption-at_some _ _ pair c.in-Some.is c.in_ok-pair.ensures.read) (MatchOption-at_some _ _ pair c.in-Some.is c.in_ok-pair.ensures.within)
    (MatchOption-at_some _ _ pair c.in-Some.is c.in_ok-pair.ensures.few) small c.requires.limit next c.requires.within)
    c.rewrite.ensures

pub returns-in-None : goal.returns-in-None
returns-in-None g c =
    ran_out c.args.dna.now c.args.limit c.args.rna.now c.read_front.new.rna (MatchOption-at_none _ _ c.in-None.is c.in_ok-pair.ensures.read) (all_known c.args.dna.now) refl c.run_out.result c.run_out.ensures
