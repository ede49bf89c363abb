use Rattle.std.proofs.Common.{◌≡◌, ◌∙◌, [], List, Ok, ap}
use Rattle.source_tokens.specs.declared.words.Token.{Token}
use Rattle.source_text.specs.declared.sequences.Kind.TheVariants.{Template}
use Rattle.source_text.specs.Reading.{Read}
use Rattle.source_text.specs.Sequences.{Worth, sequence}
use Rattle.source_text.proofs.DefinitionLemmas.{no_tokens}
use Rattle.source_text.proofs.SequenceLemmas.{ok_read}
use Rattle.source_text.proofs.forms.template_form.Goals as goal

pub returns-in-Ok-ended : goal.returns-in-Ok-ended
returns-in-Ok-ended c names known =
    let read = ok_read c.args.limit c.in_ok-read.field-0 c.in-Ok.read (sequence names c.args.line Template c.args.tokens.now) c.in-Ok.is (c.in_ok-read.ensures.value names known) in
    let none : c.in-Ok.read.1.now ≡ [] = no_tokens c.in-Ok.read.1.now c.in-Ok-ended.ensures.done in
    let make : List Token → Read Worth = λ rest. Ok (read.0, rest) in
    (read.0, read.1 ∙ ap make none, read.2)
