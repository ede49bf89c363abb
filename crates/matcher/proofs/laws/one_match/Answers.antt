use Rattle.matcher.proofs.Matches.{match_or_none, match_is_one}
use Rattle.matcher.proofs.laws.one_match.Goals as goal

pub returns-clause-decided : goal.returns-clause-decided
returns-clause-decided c = match_or_none

pub returns-clause-once : goal.returns-clause-once
returns-clause-once c = match_is_one
