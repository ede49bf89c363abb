use Rattle.std.proofs.Common.{codes, map}
use Rattle.std.proofs.lemmas.Result.{MatchResult-from_err}
use Rattle.fuun_io.proofs.WrittenLemmas.{PutsFront-longer}
use Rattle.fuun_base.specs.Letter.{letter_of}
use Rattle.letters_out.proofs.PieceLemmas.{puts_behind}
use Rattle.explainer.proofs.writing.put_ended.Goals as goal

pub returns-in_err-put_bases-clause-puts : goal.returns-in_err-put_bases-clause-puts
returns-in_err-put_bases-clause-puts g c =
    MatchResult-from_err c.from_residual.result _ _ c.from_residual.ensures.0
    (λ _. PutsFront-longer _ _ (map letter_of c.args.bases.now) (codes "\n") c.in_err-put_bases.ensures.puts)

pub returns-clause-puts : goal.returns-clause-puts
returns-clause-puts g c = puts_behind (map letter_of c.args.bases.now) (codes "\n") _ _ _ c.put_all.result c.in_ok-put_bases.ensures.puts c.put_all.ensures.puts
