use Rattle.fuun_base.proofs.Reading.{count_more, filled_more}
use Rattle.fuun_base.proofs.dna_file.fill_letters.Goals as goal

pub loop-index-preserved : goal.loop-index-preserved
loop-index-preserved c =
    let block = c.args.block.now in
    let i = c.loop-index.index in
    let before = c.loop-index.invariant in
    record {
      written = filled_more block c.args.slots.now c.loop-index.slots i c.base_at.result c.loop-index-test.true c.requires.len c.base_at.ensures before.count before.written;
      count = count_more block i c.base_at.result c.loop-index-test.true c.base_at.ensures before.count;
    }
