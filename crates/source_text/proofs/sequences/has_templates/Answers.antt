use Rattle.std.proofs.Common.{◌∙◌, ap}
use Rattle.std.specs.Prelude.{◌&&◌}
use Rattle.source_text.specs.Names.{takes_templates}
use Rattle.source_text.proofs.sequences.has_templates.Goals as goal

pub returns : goal.returns
returns c names known =
    c.both_hold.ensures ∙ ap (λ a. a && c.stands.result) (c.takes_templates.ensures c.args.scope.now.limit names known) ∙ ap (λ b. takes_templates (names c.args.id) && b) c.stands.ensures
