use Rattle.std.proofs.Common.{◌≡◌, map, arith, subst}
use Rattle.std.proofs.lemmas.List.{length-append, length-map}
use Rattle.sym_strand.specs.declared.cells.Cell.TheVariants.{Known}
use Rattle.sym_strand.specs.Cells.{places_from, start_cells}
use Rattle.sym_strand.proofs.Places.{length-places}
use Rattle.explainer.specs.Making.{Comes}
use Rattle.explainer.specs.Run.{EndsSo, TooLong, Depends}
use Rattle.explainer.proofs.ByAttempts.{HasMade, made_none, made_more, explains_spent, explains_finished, ends_too_long, ends_depending, same_too_long, same_depends}
use Rattle.explainer.proofs.explaining.explain_counted.Goals as goal

pub loop-attempt-init : goal.loop-attempt-init
loop-attempt-init g c =
    made_none (start_cells c.args.prefix.now c.args.target) c.in_ok-dna.dna c.args.limit c.new-rna.result c.in_ok-dna.ensures
    (omega (arith, c.requires.within, length-append (map Known c.args.prefix.now) (places_from 0 c.args.target), length-map c.args.prefix.now Known, length-places 0 c.args.target)) c.new-rna.ensures

pub returns-in-TooLong-clause-too_long : goal.returns-in-TooLong-clause-too_long
returns-in-TooLong-clause-too_long g c attempt e =
    subst (λ n. EndsSo c.args.prefix.now c.args.target c.args.attempts c.args.limit (TooLong n)) (same_too_long c.loop-attempt.attempt attempt e)
    (ends_too_long c.args.prefix.now c.args.target c.args.attempts c.args.limit c.loop-attempt.attempt c.loop-attempt.dna c.loop-attempt.rna c.step.new.rna c.loop-attempt.invariant c.loop-attempt-test.true
    (subst (Comes c.loop-attempt.dna c.args.limit c.loop-attempt.rna c.step.new.rna) c.in-TooLong.is c.in_ok-next.ensures))

pub returns-in-Depends-clause-depends : goal.returns-in-Depends-clause-depends
returns-in-Depends-clause-depends g c attempt e =
    subst (λ n. EndsSo c.args.prefix.now c.args.target c.args.attempts c.args.limit (Depends n)) (same_depends c.loop-attempt.attempt attempt e)
    (ends_depending c.args.prefix.now c.args.target c.args.attempts c.args.limit c.loop-attempt.attempt c.loop-attempt.dna c.loop-attempt.rna c.step.new.rna c.loop-attempt.invariant c.loop-attempt-test.true
    (subst (Comes c.loop-attempt.dna c.args.limit c.loop-attempt.rna c.step.new.rna) c.in-Depends.is c.in_ok-next.ensures))

pub loop-attempt-preserved : goal.loop-attempt-preserved
loop-attempt-preserved g c =
    made_more (start_cells c.args.prefix.now c.args.target) c.args.limit c.loop-attempt.attempt c.loop-attempt.dna c.in-Cells.next c.loop-attempt.rna c.step.new.rna c.loop-attempt.invariant
    (subst (Comes c.loop-attempt.dna c.args.limit c.loop-attempt.rna c.step.new.rna) c.in-Cells.is c.in_ok-next.ensures)

pub returns-in-Finished-clause-explained : goal.returns-in-Finished-clause-explained
returns-in-Finished-clause-explained g c =
    let found = c.in_ok-explained-in-Finished.ensures in
    explains_finished c.args.prefix.now c.args.target c.args.attempts c.args.limit c.loop-attempt.attempt c.loop-attempt.dna c.loop-attempt.rna c.step.new.rna c.in_ok-explained-in-Finished.field-0 c.loop-attempt.invariant c.loop-attempt-test.true
    (subst (Comes c.loop-attempt.dna c.args.limit c.loop-attempt.rna c.step.new.rna) c.in-Finished.is c.in_ok-next.ensures) found.finished found.attempts found.rna found.segs

pub returns-clause-explained : goal.returns-clause-explained
returns-clause-explained g c =
    let end : c.loop-attempt.attempt ≡ c.args.attempts = omega (arith, c.loop-attempt-test.false, c.loop-attempt.auto.attempt-end) in
    let found = c.in_ok-explained.ensures in
    explains_spent c.args.prefix.now c.args.target c.args.attempts c.args.limit c.loop-attempt.dna c.loop-attempt.rna c.in_ok-explained.field-0
    (subst (λ n. HasMade (start_cells c.args.prefix.now c.args.target) c.args.limit n c.loop-attempt.dna c.loop-attempt.rna) end c.loop-attempt.invariant) found.finished found.attempts found.rna found.segs
