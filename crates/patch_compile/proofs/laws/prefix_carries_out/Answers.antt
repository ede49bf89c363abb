use Rattle.patch_compile.proofs.Carried as carried
use Rattle.patch_compile.proofs.laws.prefix_carries_out.Goals as goal

pub returns : goal.returns
returns c = carried.prefix_carries_out
