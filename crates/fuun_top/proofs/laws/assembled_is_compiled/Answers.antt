use Rattle.fuun_top.proofs.ChainedSources as sources
use Rattle.fuun_top.proofs.laws.assembled_is_compiled.Goals as goal

pub returns : goal.returns
returns c = sources.assembled_is_compiled
