use Rattle.std.proofs.Common.{codes}
use Rattle.listing.specs.Texts.{template_text}
use Rattle.std.proofs.lemmas.Result.{MatchResult-from_err}
use Rattle.fuun_io.proofs.WrittenLemmas.{PutsFront-longer}
use Rattle.listing.proofs.PutLemmas.{puts_behind}
use Rattle.listing.proofs.items.put_behind_arrow.Goals as goal

pub returns-in_err-put_all-clause-puts : goal.returns-in_err-put_all-clause-puts
returns-in_err-put_all-clause-puts g c =
    MatchResult-from_err c.from_residual.result _ _ c.from_residual.ensures.0
    (λ _. PutsFront-longer _ _ (codes " -> ") (template_text c.args.template.now) c.in_err-put_all.ensures.puts)

pub returns-clause-puts : goal.returns-clause-puts
returns-clause-puts g c = puts_behind (codes " -> ") (template_text c.args.template.now) _ _ _ c.put_template.result c.in_ok-put_all.ensures.puts c.put_template.ensures.puts
