use Rattle.match_text.proofs.LawLemmas.{led_is_matched}
use Rattle.match_text.proofs.laws.matches_where_they_match.Goals as goal

pub returns : goal.returns
returns c = led_is_matched
