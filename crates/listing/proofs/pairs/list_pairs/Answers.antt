use Rattle.std.proofs.Common.{◌∙◌, drop, Err, ap}
use Rattle.listing.specs.Lists.{BeginsWithNone}
use Rattle.listing.proofs.ListLemmas.{listed_more, listed_all, listed_last, listed_in_part, listed_in_pair, listed_in_last, listing_broke}
use Rattle.listing.proofs.pairs.list_pairs.Goals as goal

pub returns-in_err-put_last_line-in-Err-RanOut-clause-puts : goal.returns-in_err-put_last_line-in-Err-RanOut-clause-puts
returns-in_err-put_last_line-in-Err-RanOut-clause-puts g c =
    let out = c.in-Err-RanOut.ensures.ran_out (ap (λ e. Err e) c.in-Err-RanOut.field-0-is) in
    let none : BeginsWithNone (drop c.loop-pair.place (g.T.Strand.bases c.args.s.now)) = (out.rna, out.ran_out) in
    listing_broke _ _ _ _ c.from_residual.result c.from_residual.ensures.0
    (listed_in_last _ _ c.loop-pair._pair c.loop-pair.place _ _ _ c.loop-pair-test.true c.loop-pair.invariant.listed none c.in_err-put_last_line-in-Err-RanOut.ensures.puts)

pub returns-in-Err-RanOut-clause-puts : goal.returns-in-Err-RanOut-clause-puts
returns-in-Err-RanOut-clause-puts g c =
    let out = c.in-Err-RanOut.ensures.ran_out (ap (λ e. Err e) c.in-Err-RanOut.field-0-is) in
    let none : BeginsWithNone (drop c.loop-pair.place (g.T.Strand.bases c.args.s.now)) = (out.rna, out.ran_out) in
    listed_last _ _ c.loop-pair._pair c.loop-pair.place _ _ _ _ c.loop-pair-test.true c.loop-pair.invariant.listed none c.in_ok-put_last_line-in-Err-RanOut.ensures.puts

pub returns-in-Err-clause-puts : goal.returns-in-Err-clause-puts
returns-in-Err-clause-puts g c =
    let part = listed_in_part _ _ c.loop-pair._pair c.loop-pair.place _ _ c.loop-pair.invariant.listed in
    record { text = part.0; is = part.1; puts = part.2 }

pub returns-in_err-put_pair_line-clause-puts : goal.returns-in_err-put_pair_line-clause-puts
returns-in_err-put_pair_line-clause-puts g c =
    listing_broke _ _ _ _ c.from_residual-in_err-put_pair_line.result c.from_residual-in_err-put_pair_line.ensures.0
    (listed_in_pair _ _ c.loop-pair._pair c.loop-pair.place c.in-Ok.pair.next _ _ _ _ _ c.loop-pair-test.true c.loop-pair.invariant.listed c.in-Ok.ensures.read c.in_err-put_pair_line.ensures.puts)

pub loop-pair-preserved : goal.loop-pair-preserved
loop-pair-preserved g c = record {
  listed = listed_more _ _ c.loop-pair._pair c.loop-pair.place c.in-Ok.pair.next _ _ _ _ _ c.loop-pair-test.true c.loop-pair.invariant.listed c.in-Ok.ensures.read c.in-Ok.ensures.within c.in_ok-put_pair_line.ensures.puts;
  faults = c.in_ok-put_pair_line.ensures.cause ∙ c.loop-pair.invariant.faults;
}

pub returns-clause-puts : goal.returns-clause-puts
returns-clause-puts g c = listed_all _ _ c.loop-pair._pair c.loop-pair.place _ _ _ c.loop-pair-test.false c.loop-pair.invariant.listed
