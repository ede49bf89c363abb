use Rattle.matcher.proofs.Worked.{nested_groups, search_goes_on, search_finds_none, skip_to_the_end, skip_past_the_end}
use Rattle.matcher.proofs.laws.matches_worked.Goals as goal

pub returns-clause-nested : goal.returns-clause-nested
returns-clause-nested c = nested_groups

pub returns-clause-search : goal.returns-clause-search
returns-clause-search c = search_goes_on

pub returns-clause-no_search : goal.returns-clause-no_search
returns-clause-no_search c = search_finds_none

pub returns-clause-skip : goal.returns-clause-skip
returns-clause-skip c = skip_to_the_end

pub returns-clause-no_skip : goal.returns-clause-no_skip
returns-clause-no_skip c = skip_past_the_end
