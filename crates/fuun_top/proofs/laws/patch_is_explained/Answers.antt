use Rattle.fuun_top.proofs.ExplainedPatches as patches
use Rattle.fuun_top.proofs.laws.patch_is_explained.Goals as goal

pub returns : goal.returns
returns c = patches.patch_is_explained
