use Rattle.std.proofs.Common.{◌≡◌, take, fold}
use Rattle.clap.specs.Simple.{app_of, new_app, with_rule}
use Rattle.fuun_words.specs.Commands.{option_of, rule_of_option}
use Rattle.fuun_words.proofs.command.build_command.Given as goal

abbrev pub invariant-loop-option : goal.invariant-loop-option
invariant-loop-option l =
    app_of l.command ≡ fold (λ app row. with_rule app (rule_of_option (option_of row))) (new_app l.verb) (take l.option-index l.options)
