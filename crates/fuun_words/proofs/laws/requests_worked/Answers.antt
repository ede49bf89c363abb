use Rattle.std.proofs.Common.{refl}
use Rattle.clap.proofs.OnLiterals.{clap_on_literals}
use Rattle.fuun_words.specs.Commands.{found_by}
use Rattle.fuun_words.proofs.laws.requests_worked.Goals as goal

pub returns-clause-defaults : goal.returns-clause-defaults
unfolding clap_on_literals found_by
returns-clause-defaults c = refl

pub returns-clause-any_order : goal.returns-clause-any_order
unfolding clap_on_literals found_by
returns-clause-any_order c = refl

pub returns-clause-profiles : goal.returns-clause-profiles
unfolding clap_on_literals found_by
returns-clause-profiles c = (refl, refl)

pub returns-clause-limits : goal.returns-clause-limits
unfolding clap_on_literals found_by
returns-clause-limits c = (refl, refl)

pub returns-clause-refused : goal.returns-clause-refused
unfolding clap_on_literals found_by
returns-clause-refused c = (refl, refl, refl, refl, refl)
