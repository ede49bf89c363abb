use Rattle.std.proofs.Common.{◌++◌, codes}
use Rattle.std.proofs.lemmas.Result.{MatchResult-from_err}
use Rattle.listing.specs.Texts.{number_text, pair_text}
use Rattle.listing.proofs.PutLemmas.{puts_in_three, part_of_three}
use Rattle.listing.proofs.pairs.put_pair_line.Goals as goal

pub returns-in_err-put_place-clause-puts : goal.returns-in_err-put_place-clause-puts
returns-in_err-put_place-clause-puts g c =
    MatchResult-from_err c.from_residual.result _ _ c.from_residual.ensures.0
    (λ _. part_of_three (number_text c.args.place) (codes " ") (pair_text c.args.pattern.now c.args.template.now ++ codes "\n") _ _ c.in_err-put_place.ensures.puts)

pub returns-clause-puts : goal.returns-clause-puts
returns-clause-puts g c =
    puts_in_three (number_text c.args.place) (codes " ") (pair_text c.args.pattern.now c.args.template.now ++ codes "\n") _ _ _ c.put_ended_pair.result c.in_ok-put_place.ensures.puts c.put_ended_pair.ensures.puts
