use Rattle.std.proofs.Common.{◌++◌, codes}
use Rattle.std.proofs.lemmas.Result.{MatchResult-from_err}
use Rattle.fuun_io.proofs.WrittenLemmas.{PutsFront-behind, PutsFront-longer}
use Rattle.listing.specs.Texts.{letters_text}
use Rattle.listing.proofs.PutLemmas.{puts_behind}
use Rattle.listing.proofs.items.put_search.Goals as goal

pub returns-in_err-put_all-clause-puts : goal.returns-in_err-put_all-clause-puts
returns-in_err-put_all-clause-puts g c =
    MatchResult-from_err c.from_residual.result _ _ c.from_residual.ensures.0
    (λ _. PutsFront-longer _ _ (codes "<") (letters_text c.args.bases.now ++ codes ">") c.in_err-put_all.ensures.puts)

pub returns-in_err-put_bases-clause-puts : goal.returns-in_err-put_bases-clause-puts
returns-in_err-put_bases-clause-puts g c =
    MatchResult-from_err c.from_residual-in_err-put_bases.result _ _ c.from_residual-in_err-put_bases.ensures.0
    (λ _. PutsFront-behind _ _ _ (codes "<") (letters_text c.args.bases.now ++ codes ">") c.in_ok-put_all.ensures.puts
    (PutsFront-longer _ _ (letters_text c.args.bases.now) (codes ">") c.in_err-put_bases.ensures.puts))

pub returns-clause-puts : goal.returns-clause-puts
returns-clause-puts g c =
    puts_behind (codes "<") (letters_text c.args.bases.now ++ codes ">") _ _ _ c.put_all-2.result c.in_ok-put_all.ensures.puts
    (puts_behind (letters_text c.args.bases.now) (codes ">") _ _ _ c.put_all-2.result c.in_ok-put_bases.ensures.puts c.put_all-2.ensures.puts)
