use Rattle.std.proofs.Common.{◌≡◌, ◌∙◌, arith, [], subst, sym, Err}
use Rattle.fuun_base.specs.Lines.{lines}
use Rattle.assembler.specs.declared.assembling.AsmError.TheVariants.{Unreadable, NoMemory}
use Rattle.assembler.specs.Answers.{IsAssembled, ReadsPairs}
use Rattle.assembler.proofs.AnswerLemmas.{IsSoFar, none_so_far, so_far_more, refused_is_answer, all_is_answer, assembled_is_read, refused_is_not_read}
use Rattle.assembler.proofs.assembling.assemble.Goals as goal

pub lines-init : goal.lines-init
lines-init c = record {
  so_far = subst (λ l. IsSoFar c.args.text.now c.args.text.now 1 l) (sym c.new-bases.ensures.items) (none_so_far c.args.text.now);
  counted = omega arith;
}

pub returns-in-Err-clause-refused : goal.returns-in-Err-clause-refused
returns-in-Err-clause-refused c other =
    refused_is_answer c.args.text.now c.lines.rest.now c.first_line.result.0.now c.first_line.result.1.now c.lines.number c.lines.bases.items c.in-Err.error c.lines.invariant.so_far c.first_line.ensures.lines c.in-Err.ensures.refused other

pub returns-in-Err-clause-no_dna : goal.returns-in-Err-clause-no_dna
returns-in-Err-clause-no_dna c number e =
    let is : c.in-Err.error ≡ Unreadable number = cc in
    let answer : IsAssembled c.args.text.now (Err (Unreadable number)) =
    subst (λ x. IsAssembled c.args.text.now (Err x)) is
    (refused_is_answer c.args.text.now c.lines.rest.now c.first_line.result.0.now c.first_line.result.1.now c.lines.number c.lines.bases.items c.in-Err.error c.lines.invariant.so_far c.first_line.ensures.lines c.in-Err.ensures.refused (λ n. let clash : Unreadable number ≡ NoMemory = sym is ∙ n in cc)) in
    refused_is_not_read (lines c.args.text.now) number answer

pub lines-preserved : goal.lines-preserved
lines-preserved c = record {
  so_far = so_far_more c.args.text.now c.lines.rest.now c.first_line.result.0.now c.first_line.result.1.now c.lines.number c.lines.bases.items c.assemble_line.new.out.items c.lines.invariant.so_far c.first_line.ensures.lines c.in_default.ensures.taken;
  counted = omega (arith, c.first_line.ensures.shorter, c.lines.invariant.counted);
}

pub returns-in-Ok-clause-reads : goal.returns-in-Ok-clause-reads
returns-in-Ok-clause-reads c =
    let answer = all_is_answer c.args.text.now c.lines.rest.now c.lines.number c.lines.bases.items c.lines.invariant.so_far c.lines-test.false in
    let read = assembled_is_read (lines c.args.text.now) c.lines.bases.items answer in
    (read.0, read.1, subst (λ code. ReadsPairs code read.0 []) (sym c.in-Ok.ensures) read.2)
