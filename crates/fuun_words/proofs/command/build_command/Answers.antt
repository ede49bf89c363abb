use Rattle.std.proofs.Common.{◌≡◌, ◌∙◌, take, sym, ap₂, take_all}
use Rattle.std.proofs.lemmas.List.Folds.{fold-map}
use Rattle.std.proofs.lemmas.List.Sums.{fold_more}
use Rattle.clap.specs.Simple.{new_app, with_rule}
use Rattle.fuun_words.specs.Commands.{option_of, rule_of_option}
use Rattle.fuun_words.proofs.command.build_command.Goals as goal

pub loop-option-preserved : goal.loop-option-preserved
loop-option-preserved c =
    let shape = c.in_ok-command.ensures.shape c.argument.ensures.local in
    let more = fold_more _ _ c.args.options.now c.loop-option.option-index _ c.loop-option-test.true in
    shape ∙ ap₂ with_rule c.loop-option.invariant c.argument.ensures.rule ∙ sym more

pub returns : goal.returns
returns c =
    let whole : take c.loop-option.option-index c.args.options.now ≡ c.args.options.now = take_all _ _ c.loop-option-test.false in
    rw whole at c.loop-option.invariant ∙ sym (fold-map (λ app o. with_rule app (rule_of_option o)) option_of (new_app c.args.verb.now) c.args.options.now)
