use Rattle.std.proofs.Common.{◌∙◌, sym}
use Rattle.assembler.proofs.Steps.{digits_end, digits_none, digits_more, digits_all}
use Rattle.assembler.proofs.numbers.digits.Goals as goal

pub returns-then-not-is_digit-clause-value : goal.returns-then-not-is_digit-clause-value
returns-then-not-is_digit-clause-value c =
    digits_end c.args.rest.now c.args.first c.digits.n c.digits.place c.digits-test.true (sym c.is_digit.ensures ∙ c.if-not-is_digit.true) c.digits.invariant

pub returns-in_err-n-clause-value : goal.returns-in_err-n-clause-value
returns-in_err-n-clause-value c =
    c.from_residual.ensures
    ∙ sym (digits_none c.args.rest.now c.args.first c.digits.n c.digits.place c.digits-test.true (sym c.is_digit.ensures ∙ c.if-not-is_digit.false) (sym c.with_digit.ensures ∙ c.in_err-n.was) c.digits.invariant)

pub digits-preserved : goal.digits-preserved
digits-preserved c =
    digits_more c.args.rest.now c.args.first c.digits.n c.digits.place c.in_ok-n.n c.digits-test.true (sym c.is_digit.ensures ∙ c.if-not-is_digit.false) (sym c.with_digit.ensures ∙ c.in_ok-n.was) c.digits.invariant

pub returns-clause-value : goal.returns-clause-value
returns-clause-value c = digits_all c.args.rest.now c.args.first c.digits.n c.digits.place c.digits-test.false c.digits.auto.place-end c.digits.invariant
