use Rattle.std.proofs.Common.{◌++◌, ◌∙◌, ap, arith, length, sym}
use Rattle.std.specs.Option.{option_to_list}
use Rattle.source_tokens.specs.Statements.{statements_from}
use Rattle.source_tokens.proofs.LineLemmas.{next_given, none_left}
use Rattle.source_tokens.proofs.statements.Statements.next_statement.Goals as goal

pub returns-in-Ok-clause-next : goal.returns-in-Ok-clause-next
returns-in-Ok-clause-next c =
    next_given c.args.self.now (statements_from c.next_from.new.names c.in-Ok.place c.self.inside.text.items) c.in-Ok.next
    (sym c.self.view_is
    ∙ ap (statements_from c.self.inside.names c.self.inside.place) (sym c.as_slice.ensures.value)
    ∙ c.in-Ok.ensures.next
    ∙ ap (λ text. option_to_list c.in-Ok.next ++ statements_from c.next_from.new.names c.in-Ok.place text) c.as_slice.ensures.value)
    (λ none. none_left c.next_from.new.names c.in-Ok.place c.self.inside.text.items (omega (arith, c.in-Ok.ensures.last none, ap length c.as_slice.ensures.value)))

pub returns-in-Err-clause-broken : goal.returns-in-Err-clause-broken
returns-in-Err-clause-broken c = none_left c.next_from.new.names c.len-self-inside.result c.self.inside.text.items (omega (arith, c.len-self-inside.ensures))
