use Rattle.std.proofs.Common.{◌∙◌}
use Rattle.source_text.specs.declared.sequences.Kind.TheVariants.{Bases}
use Rattle.source_text.specs.Forms.{Data}
use Rattle.source_text.specs.Sequences.{sequence}
use Rattle.source_text.proofs.FormLemmas.{data_read, end_none}
use Rattle.source_text.proofs.SequenceLemmas.{ok_read}
use Rattle.source_text.proofs.forms.data_form.Goals as goal

pub returns-in-Ok-ended : goal.returns-in-Ok-ended
returns-in-Ok-ended c names known =
    let read = ok_read c.args.scope.now.limit c.in_ok-read.field-0 c.in-Ok.read (sequence names c.args.scope.now.line Bases c.args.rest.now) c.in-Ok.is (c.in_ok-read.ensures.value names known) in
    (read.0, data_read names c.args.scope.now.line c.args.rest.now c.in-Ok.read.1.now read.0 read.1 ∙ end_none (Data read.0) c.in-Ok.read.1.now c.in-Ok-ended.ensures.done, read.2)
