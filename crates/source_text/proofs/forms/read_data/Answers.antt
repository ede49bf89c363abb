use Rattle.std.proofs.Common.{subst}
use Rattle.source_text.specs.Forming.{IsData}
use Rattle.source_text.specs.Forms.{data_form}
use Rattle.source_text.proofs.forms.read_data.Goals as goal

pub returns-in-Ok-clause-value : goal.returns-in-Ok-clause-value
returns-in-Ok-clause-value c names known = subst (λ read. IsData c.args.limit read (data_form names c.args.line c.args.rest.now)) c.in-Ok.is (c.in_ok-bases.ensures names known)
