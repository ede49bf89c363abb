use Rattle.fuun_top.proofs.ChainedRewind as rewind
use Rattle.fuun_top.proofs.laws.rewound_agrees.Goals as goal

pub returns : goal.returns
returns c = rewind.rewound_agrees
