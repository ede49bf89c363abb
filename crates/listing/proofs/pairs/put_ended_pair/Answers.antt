use Rattle.std.proofs.Common.{codes}
use Rattle.listing.specs.Texts.{pair_text}
use Rattle.std.proofs.lemmas.Result.{MatchResult-from_err}
use Rattle.fuun_io.proofs.WrittenLemmas.{PutsFront-longer}
use Rattle.listing.proofs.PutLemmas.{puts_behind}
use Rattle.listing.proofs.pairs.put_ended_pair.Goals as goal

pub returns-in_err-put_pair-clause-puts : goal.returns-in_err-put_pair-clause-puts
returns-in_err-put_pair-clause-puts g c =
    MatchResult-from_err c.from_residual.result _ _ c.from_residual.ensures.0
    (λ _. PutsFront-longer _ _ (pair_text c.args.pattern.now c.args.template.now) (codes "\n") c.in_err-put_pair.ensures.puts)

pub returns-clause-puts : goal.returns-clause-puts
returns-clause-puts g c = puts_behind (pair_text c.args.pattern.now c.args.template.now) (codes "\n") _ _ _ c.put_all.result c.in_ok-put_pair.ensures.puts c.put_all.ensures.puts
