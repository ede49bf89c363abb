use Rattle.std.proofs.Common.{◌∙◌, ap, subst}
use Rattle.source_text.specs.Keeping.{AreKnown}
use Rattle.source_text.specs.Sources.{labels, labels_with}
use Rattle.source_text.proofs.SourceLemmas.{labels_end, labels_more, next_none, next_some}
use Rattle.source_text.proofs.sources.add_labels.Goals as goal

pub statements-preserved : goal.statements-preserved
statements-preserved c limit names known =
    labels_more limit c.statements.lines c.in_ok-lines.lines c.statements.known.items c.add_labels_of.new.known.items names c.args.statements c.statements.statements c.next_statement.new.self
    c.in-Some.statement
    (next_some c.in_ok-statement.field-0 c.in-Some.statement c.statements.statements c.next_statement.new.self c.in-Some.is c.in_ok-statement.ensures.next)
    (λ x are.
    subst (λ t. AreKnown limit c.add_labels_of.new.known.items (labels_with (labels x c.statements.lines) t).names) c.as_slice.ensures (c.in_ok-lines.ensures.names limit x are))
    (λ x. c.in_ok-lines.ensures.lines x ∙ ap (λ t. (labels_with (labels x c.statements.lines) t).lines) c.as_slice.ensures)
    (c.statements.invariant limit names known)

pub returns : goal.returns
returns c limit names known =
    labels_end limit c.statements.lines c.statements.known.items names c.args.statements c.statements.statements
    (next_none c.in_ok-statement.field-0 c.statements.statements c.next_statement.new.self c.in_default.is c.in_ok-statement.ensures.next)
    (c.statements.invariant limit names known)
