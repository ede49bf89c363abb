use Rattle.std.proofs.Common.{◌≡◌, Some, get_or, sym, ◌∙◌}
use Rattle.fuun_base.specs.Letter.{base_of}
use Rattle.session_orders.proofs.WordBases.{all_more, read_more}
use Rattle.session_orders.proofs.reading.bases_of.Goals as goal

pub letters-preserved : goal.letters-preserved
letters-preserved c =
    let word = c.args.word.now in
    let i = c.letters.letter-index in
    let is : base_of (get_or word i 0) ≡ Some c.in-Some.base = sym c.from_letter.ensures ∙ c.in-Some.is in
    record {
      all = all_more word i c.in-Some.base c.letters-test.true is c.letters.invariant.all;
      read = c.in_ok-push-in-Some.ensures.added ∙ read_more word i c.in-Some.base c.letters.bases c.letters-test.true is c.letters.invariant.read;
    }
