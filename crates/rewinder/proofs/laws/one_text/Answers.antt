use Rattle.rewinder.proofs.TextLemmas.{has_text, one_text}
use Rattle.rewinder.proofs.laws.one_text.Goals as goal

pub returns-clause-made : goal.returns-clause-made
returns-clause-made c = has_text

pub returns-clause-once : goal.returns-clause-once
returns-clause-once c = one_text
