use Rattle.std.proofs.Common.{◌∙◌, ap, sym}
use Rattle.source_tokens.specs.declared.words.Word.TheVariants.{Name, Number}
use Rattle.source_tokens.specs.declared.bytes.Kind.TheVariants.{Digit, NamePart}
use Rattle.source_tokens.specs.Bytes.{stretch}
use Rattle.source_tokens.proofs.WordLemmas.{digit_word, lower_word}
use Rattle.source_tokens.proofs.scan.word.Goals as goal

pub returns-then-is_lower-clause-word : goal.returns-then-is_lower-clause-word
returns-then-is_lower-clause-word c =
    ap Name c.in_ok-id.ensures.id ∙ sym (ap (λ r. r.word) (lower_word c.args.names.now c.args.bytes.now c.stretch-more.result c.requires (sym c.if-is_lower.true ∙ c.is_lower.ensures) (c.stretch-more.ensures.value ∙ ap (stretch NamePart) c.rest_from-rest.ensures)))

pub returns-then-is_lower-clause-more : goal.returns-then-is_lower-clause-more
returns-then-is_lower-clause-more c =
    sym (ap (λ r. r.more) (lower_word c.args.names.now c.args.bytes.now c.stretch-more.result c.requires (sym c.if-is_lower.true ∙ c.is_lower.ensures) (c.stretch-more.ensures.value ∙ ap (stretch NamePart) c.rest_from-rest.ensures)))

pub returns-then-is_lower-clause-met : goal.returns-then-is_lower-clause-met
returns-then-is_lower-clause-met c =
    c.in_ok-id.ensures.met ∙ sym (ap (λ r. r.met) (lower_word c.args.names.now c.args.bytes.now c.stretch-more.result c.requires (sym c.if-is_lower.true ∙ c.is_lower.ensures) (c.stretch-more.ensures.value ∙ ap (stretch NamePart) c.rest_from-rest.ensures)))

pub returns-then-is_digit-clause-word : goal.returns-then-is_digit-clause-word
returns-then-is_digit-clause-word c =
    ap Number c.number.ensures
    ∙ sym (ap (λ r. r.word) (digit_word c.args.names.now c.args.bytes.now c.stretch-more-then-is_digit.result c.requires (sym c.if-is_lower.false ∙ c.is_lower.ensures) (sym c.if-is_digit.true ∙ c.is_digit.ensures) (c.stretch-more-then-is_digit.ensures.value ∙ ap (stretch Digit) c.rest_from-rest.ensures)))
