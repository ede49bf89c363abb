use Rattle.std.proofs.Common.{map, ◌∙◌}
use Rattle.fuun_words.specs.Commands.{option_of}
use Rattle.fuun_words.proofs.CommandLemmas.{found_where_taken, not_found_where_refused}
use Rattle.fuun_words.proofs.command.find_options.Goals as goal

pub returns-in-Ok-clause-taken : goal.returns-in-Ok-clause-taken
returns-in-Ok-clause-taken c =
    found_where_taken c.args.verb.now (map option_of c.args.options.now) _ _ _ c.in_ok-command.ensures c.in-Ok.ensures.kinds
    (λ simple. (c.in-Ok.ensures.matches simple).0)

pub returns-in-Err-clause-refused : goal.returns-in-Err-clause-refused
returns-in-Err-clause-refused c = λ usage.
    not_found_where_refused c.args.verb.now (map option_of c.args.options.now) _ _ _ c.in_ok-command.ensures c.in-Err.ensures.kinds
    (λ memory. c.error_of.ensures usage (c.kind.ensures ∙ memory))
