use Rattle.std.proofs.Common.{length, take, drop, arith, length-drop}
use Rattle.explainer.proofs.FitLemmas.{front_seen, fits_front}
use Rattle.explainer.proofs.fitting.fit_buffered.Goals as goal

pub returns : goal.returns
returns c =
    let d = drop c.args.from c.args.strand.now.bases in
    let count = c.copy_out-count.result in
    let seen = c.copy_out-count.new.buf in
    fits_front c.args.bases.now d (take count seen) c.fit_bases.result count
    (front_seen d c.args.seen.now seen count (length c.args.seen.now) (let n = c.copy_out-count.ensures.number in omega (arith, length-drop c.args.from c.args.strand.now.bases, n)) c.copy_out-count.ensures.written)
    c.fit_bases.ensures
