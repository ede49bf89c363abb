use Rattle.draw_compile.proofs.LengthLemmas.{length_by_runs}
use Rattle.draw_compile.proofs.laws.length_by_runs.Goals as goal

pub returns : goal.returns
returns c = length_by_runs
