use Rattle.std.proofs.Common.{◌∙◌, ap, min, ◌^◌}
use Rattle.source_tokens.specs.Words.{with_digit}
use Rattle.std.specs.Prelude.{slice_index}
use Rattle.source_tokens.proofs.WordLemmas.{number_more, number_none}
use Rattle.source_tokens.proofs.scan.number.Goals as goal

pub digits-init : goal.digits-init
digits-init c = number_none

pub digits-preserved : goal.digits-preserved
digits-preserved c =
    c.with_digit-n.ensures
    ∙ ap (λ n. min (with_digit n (slice_index c.args.digits.now c.digits.digit-index)) (2 ^ 63)) c.digits.invariant
    ∙ number_more c.args.digits.now c.digits.digit-index c.digits-test.true
