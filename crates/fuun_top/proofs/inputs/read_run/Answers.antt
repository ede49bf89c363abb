use Rattle.fuun_top.proofs.ReadingLemmas.{reads_refused}
use Rattle.fuun_top.proofs.inputs.read_run.Goals as goal

pub returns-in-Err-clause-reads : goal.returns-in-Err-clause-reads
returns-in-Err-clause-reads g c = reads_refused (g.F.Folder.contents c.args.folder.now) _ _ _ c.in-Err.status _ _ _ _ c.in-Err.ensures.reads
