use Rattle.std.proofs.Common.{◌++◌, codes}
use Rattle.listing.specs.Texts.{pattern_text, template_text}
use Rattle.std.proofs.lemmas.Result.{MatchResult-from_err}
use Rattle.fuun_io.proofs.WrittenLemmas.{PutsFront-longer}
use Rattle.listing.proofs.PutLemmas.{puts_behind}
use Rattle.listing.proofs.items.put_pair.Goals as goal

pub returns-in_err-put_pattern-clause-puts : goal.returns-in_err-put_pattern-clause-puts
returns-in_err-put_pattern-clause-puts g c =
    MatchResult-from_err c.from_residual.result _ _ c.from_residual.ensures.0
    (λ _. PutsFront-longer _ _ (pattern_text c.args.pattern.now) (codes " -> " ++ template_text c.args.template.now) c.in_err-put_pattern.ensures.puts)

pub returns-clause-puts : goal.returns-clause-puts
returns-clause-puts g c = puts_behind (pattern_text c.args.pattern.now) (codes " -> " ++ template_text c.args.template.now) _ _ _ c.put_behind_arrow.result c.in_ok-put_pattern.ensures.puts c.put_behind_arrow.ensures.puts
