use Rattle.std.proofs.Common.{◌-◌, ◌≤◌, arith, length, rules}
use Rattle.fuun_top.proofs.MarkLemmas.{copied, mark_more}
use Rattle.fuun_top.proofs.bench.mark_by_buffer.Goals as goal

pub loop-place-preserved : goal.loop-place-preserved
loop-place-preserved g c =
    let dna = g.T.Strand.bases c.args.dna.now in
    let few : c.copy_out-count.result ≤ length dna - c.loop-place.place = omega (arith, c.copy_out-count.ensures.number) in
    let is = copied c.copy_out-count.result c.loop-place.place dna c.copy_out-count.new.buf _ few c.copy_out-count.ensures.written in (
      omega (arith, c.copy_out-count.ensures.number, c.len-len.ensures.length, c.loop-place.invariant.0),
      mark_more dna _ c.loop-place.place c.copy_out-count.result c.loop-place.mark _ is c.loop-place.invariant.1 c.mark_behind-mark.ensures,
      search rules,
    )
