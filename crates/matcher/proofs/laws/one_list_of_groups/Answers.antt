use Rattle.matcher.proofs.Grouping.{groups_exist}
use Rattle.matcher.proofs.OpenGroups as lemmas
use Rattle.matcher.proofs.laws.one_list_of_groups.Goals as goal

pub returns-clause-has : goal.returns-clause-has
returns-clause-has c = groups_exist

pub returns-clause-once : goal.returns-clause-once
returns-clause-once c = lemmas.one_list_of_groups
