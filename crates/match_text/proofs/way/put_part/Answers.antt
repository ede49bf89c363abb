use Rattle.std.proofs.Common.{◌++◌, codes, decimal}
use Rattle.std.proofs.lemmas.Result.{MatchResult-from_err}
use Rattle.fuun_io.proofs.WrittenLemmas.{PutsFront-longer}
use Rattle.listing.proofs.PutLemmas.{puts_behind}
use Rattle.listing.specs.Texts.{pattern_text}
use Rattle.match_text.specs.Way.{going}
use Rattle.match_text.proofs.way.put_part.Goals as goal

pub returns-in_err-put_pattern_items-clause-puts : goal.returns-in_err-put_pattern_items-clause-puts
returns-in_err-put_pattern_items-clause-puts g c =
    MatchResult-from_err c.from_residual.result _ _ c.from_residual.ensures.0
    (λ _. PutsFront-longer _ _ (pattern_text c.args.part.now) (codes " " ++ (decimal c.args.at ++ (going c.args.part.now c.args.at c.args.further.now ++ codes "\n"))) c.in_err-put_pattern_items.ensures.puts)

pub returns-clause-puts : goal.returns-clause-puts
returns-clause-puts g c =
    puts_behind (pattern_text c.args.part.now) (codes " " ++ (decimal c.args.at ++ (going c.args.part.now c.args.at c.args.further.now ++ codes "\n"))) _ _ _ c.put_going.result c.in_ok-put_pattern_items.ensures.puts c.put_going.ensures.puts
