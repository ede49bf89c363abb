use Rattle.std.proofs.Common.{◌≡◌, sym, ◌∙◌, ap, below_more, ◌++◌, Some, None, false, get_or}
use Rattle.fuun_base.specs.Letter.{base_of}
use Rattle.fuun_base.specs.DnaFile.{is_other}
use Rattle.fuun_base.proofs.Reading.{appended_more, bases_same, other_of_base, other_of_skipped}
use Rattle.fuun_base.proofs.dna_file.put_each.Goals as goal
use Rattle.fuun_base.proofs.dna_file.put_each.Goals.{in-Some+in_ok-push, in_default+else-not-is_skipped}

pub loop-index-preserved : goal.loop-index-preserved
loop-index-preserved c =
    let block = c.args.block.now in
    let i = c.loop-index.index in
    let old = c.args.list.now.items in
    let before = c.loop-index.invariant in
    elim c.match-from_letter.branch [
      | in-Some+in_ok-push w ↦
          let is : base_of (get_or block i 0) ≡ Some w.in-Some.base = sym c.from_letter.ensures ∙ w.in-Some.is in
          rw w.list-is (record {
            added = rw w.in_ok-push.ensures.items (appended_more old c.loop-index.list.items block i w.in-Some.base c.loop-index-test.true is before.added);
            clean = below_more (λ k. is_other (get_or block k 0) ≡ false) i before.clean (other_of_base (get_or block i 0) w.in-Some.base is);
          })
      | in_default+else-not-is_skipped w ↦
          let is : base_of (get_or block i 0) ≡ None = sym c.from_letter.ensures ∙ w.in_default.is in
          rw w.list-is (record {
            added = before.added ∙ ap (λ d. old ++ d) (sym (bases_same block i c.loop-index-test.true is));
            clean = below_more (λ k. is_other (get_or block k 0) ≡ false) i before.clean (other_of_skipped (get_or block i 0) w.is_skipped.result is w.is_skipped.ensures w.if-not-is_skipped.false);
          })
    ]
