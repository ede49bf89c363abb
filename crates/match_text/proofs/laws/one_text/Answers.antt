use Rattle.match_text.proofs.LawLemmas.{has_text, text_is_one}
use Rattle.match_text.proofs.laws.one_text.Goals as goal

pub returns-clause-made : goal.returns-clause-made
returns-clause-made c = has_text

pub returns-clause-once : goal.returns-clause-once
returns-clause-once c = text_is_one
