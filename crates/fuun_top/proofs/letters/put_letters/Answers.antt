use Rattle.std.proofs.Common.{[], ◌∷◌, map}
use Rattle.std.proofs.lemmas.Result.{MatchResult-from_err}
use Rattle.fuun_base.specs.Letter.{letter_of}
use Rattle.fuun_io.proofs.WrittenLemmas.{PutsFront-longer}
use Rattle.letters_out.proofs.PieceLemmas.{puts_behind}
use Rattle.fuun_top.proofs.letters.put_letters.Goals as goal

pub returns-in_err-put_strand-clause-puts : goal.returns-in_err-put_strand-clause-puts
returns-in_err-put_strand-clause-puts g c =
    MatchResult-from_err c.from_residual.result _ _ c.from_residual.ensures.0
    (λ _. PutsFront-longer _ _ (map letter_of (g.T.Strand.bases c.args.dna.now)) (10 ∷ []) c.in_err-put_strand.ensures.puts)

pub returns-clause-puts : goal.returns-clause-puts
returns-clause-puts g c =
    puts_behind (map letter_of (g.T.Strand.bases c.args.dna.now)) (10 ∷ []) _ _ _ c.put_all.result c.in_ok-put_strand.ensures.puts c.put_all.ensures.puts
