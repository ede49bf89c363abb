use Rattle.std.proofs.Common.{◌≡◌, ◌-◌, length, drop, ap, ◌∙◌, arith}
use Rattle.std.specs.Prelude.{slice_range}
use Rattle.std.proofs.lemmas.List.{length-take}
use Rattle.fuun_base.specs.Tally.{tally_total}
use Rattle.fuun_base.proofs.Counting.{tally_total-tally_of}
use Rattle.explainer.proofs.fronts.quoted.Goals as goal

pub quoted_len-requires-clause-sum : goal.quoted_len-requires-clause-sum
quoted_len-requires-clause-sum g c =
    let front = c.in_ok-front.front.bases in
    let len = c.len-len-2.result in
    let count : tally_total c.tally.result ≡ length (slice_range front 0 len) = ap tally_total c.tally.ensures ∙ tally_total-tally_of (slice_range front 0 len) in
    omega (arith, count, length-take (len - 0) (drop 0 front), c.len-len-2.ensures.length, c.len-len-2.ensures.most)
