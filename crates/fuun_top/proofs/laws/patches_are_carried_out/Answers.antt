use Rattle.fuun_top.proofs.ChainedPatches as patches
use Rattle.fuun_top.proofs.laws.patches_are_carried_out.Goals as goal

pub returns : goal.returns
returns c = patches.patches_are_carried_out
