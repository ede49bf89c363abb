use Rattle.std.proofs.Common.{◌≡◌, ◌++◌, ◌∷◌, [], get_or, Some, ap, sym, ◌∙◌}
use Rattle.fuun_base.specs.Letter.{base_of}
use Rattle.fuun_base.proofs.Reading.{bases_more}
use Rattle.patch_text.proofs.Texts.{letters_more}
use Rattle.patch_text.proofs.table.bases_of.Goals as goal

pub letters-preserved : goal.letters-preserved
letters-preserved c =
    let text = c.args.text.now in
    let i = c.letters.letter-index in
    let b = c.in-Some.base in
    let is : base_of (get_or text i 0) ≡ Some b = sym c.from_letter.ensures ∙ c.in-Some.is in
    record {
      bases = rw c.in_ok-push-in-Some.ensures.added (ap (λ d. d ++ b ∷ []) c.letters.invariant.bases ∙ sym (bases_more text i b c.letters-test.true is));
      letters = letters_more text i b c.letters-test.true is c.letters.invariant.letters;
    }
