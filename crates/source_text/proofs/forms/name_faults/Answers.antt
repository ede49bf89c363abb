use Rattle.std.proofs.Common.{◌∙◌, sym}
use Rattle.source_text.proofs.DefinitionLemmas.{one_known, one_unknown}
use Rattle.source_text.proofs.forms.name_faults.Goals as goal

pub returns-then-is_unknown : goal.returns-then-is_unknown
returns-then-is_unknown c limit names known = c.none.ensures ∙ sym (one_unknown names c.args.name (sym (c.is_unknown.ensures limit names known) ∙ c.if-is_unknown.true))

pub returns-else-is_unknown : goal.returns-else-is_unknown
returns-else-is_unknown c limit names known = c.name.ensures ∙ sym (one_known names c.args.name (sym (c.is_unknown.ensures limit names known) ∙ c.if-is_unknown.false))
