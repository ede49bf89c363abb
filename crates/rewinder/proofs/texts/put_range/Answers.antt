use Rattle.std.proofs.Common.{◌≡◌, ◌++◌, ap, codes, length, map, subst, ◌∙◌}
use Rattle.std.specs.Prelude.{min, slice_range}
use Rattle.std.proofs.lemmas.Result.{MatchResult-from_err}
use Rattle.fuun_base.specs.Letter.{letter_of}
use Rattle.fuun_io.specs.Written.{Puts, PutsFront}
use Rattle.fuun_io.proofs.WrittenLemmas.{PutsFront-longer}
use Rattle.letters_out.proofs.PieceLemmas.{puts_behind}
use Rattle.rewinder.proofs.RangeLemmas.{range_cut}
use Rattle.rewinder.proofs.texts.put_range.Goals as goal

pub returns-in_err-put_range-clause-puts : goal.returns-in_err-put_range-clause-puts
returns-in_err-put_range-clause-puts g c =
    let bases = g.S.Strand.bases c.args.dna.now in
    let most : c.min.result ≡ min c.args.hi (length bases) = rw c.min.ensures (ap (min c.args.hi) c.len.ensures.length) in
    let cut = ap (slice_range bases c.args.lo) most ∙ range_cut bases c.args.lo c.args.hi in
    MatchResult-from_err c.from_residual.result _ _ c.from_residual.ensures.0
    (λ _. subst (λ l. PutsFront (g.K.Sink.bytes c.args.sink.now) (g.K.Sink.bytes c.put_range.new.sink) (map letter_of l ++ codes "\n")) cut (PutsFront-longer _ _ _ (codes "\n") c.in_err-put_range.ensures.puts))

pub returns-clause-puts : goal.returns-clause-puts
returns-clause-puts g c =
    let bases = g.S.Strand.bases c.args.dna.now in
    let most : c.min.result ≡ min c.args.hi (length bases) = rw c.min.ensures (ap (min c.args.hi) c.len.ensures.length) in
    let cut = ap (slice_range bases c.args.lo) most ∙ range_cut bases c.args.lo c.args.hi in
    subst (λ l. Puts c.put_all.result (g.K.Sink.bytes c.args.sink.now) (g.K.Sink.bytes c.put_all.new.sink) (map letter_of l ++ codes "\n")) cut
    (puts_behind _ (codes "\n") _ _ _ c.put_all.result c.in_ok-put_range.ensures.puts c.put_all.ensures.puts)
