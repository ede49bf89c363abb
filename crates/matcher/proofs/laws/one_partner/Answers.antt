use Rattle.matcher.proofs.Grouping.{partner}
use Rattle.matcher.proofs.OpenGroups as lemmas
use Rattle.matcher.proofs.laws.one_partner.Goals as goal

pub returns-clause-has : goal.returns-clause-has
returns-clause-has c = partner

pub returns-clause-once : goal.returns-clause-once
returns-clause-once c = lemmas.one_partner
