use Rattle.std.proofs.Common.{◌≡◌, ◌∷◌, ◌∙◌, Ok, ap, sym, rules}
use Rattle.source_tokens.specs.declared.words.Word.TheVariants.{Name}
use Rattle.source_text.specs.Names.{number_named}
use Rattle.source_text.specs.Reading.{Read}
use Rattle.source_text.specs.Sums.{factor, factor_by, named}
use Rattle.source_text.specs.declared.sums.OneFactor.{OneFactor}
use Rattle.source_text.proofs.sums.factor.Goals as goal

pub returns-in-Name-clause-value : goal.returns-in-Name-clause-value
unfolding factor
returns-in-Name-clause-value c limit names known =
    let word : c.in-Some.first.now.word ≡ Name c.in-Name.id = search rules in
    let tokens : c.args.tokens.now ≡ c.in-Some.first.now ∷ c.in-Some.rest.now = search rules in
    let is : c.named.result ≡ named (number_named names c.args.line c.in-Name.id) c.in-Some.first.now.at =
    c.named.ensures ∙ ap (λ f. named f c.in-Some.first.now.at) (c.number_named.ensures limit names known) in
    let make : OneFactor → Read OneFactor = λ f. Ok (f, c.in-Some.rest.now) in
    ap make is ∙ sym (ap (λ w. factor_by names c.args.line w c.in-Some.first.now.at c.in-Some.rest.now) word) ∙ sym (ap (factor names c.args.line) tokens)
