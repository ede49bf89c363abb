use Rattle.listing.proofs.TextLemmas.{held_pattern_text, held_template_text}
use Rattle.listing.proofs.laws.held_texts.Goals as goal

pub returns-clause-pattern : goal.returns-clause-pattern
returns-clause-pattern c = held_pattern_text

pub returns-clause-template : goal.returns-clause-template
returns-clause-template c = held_template_text
