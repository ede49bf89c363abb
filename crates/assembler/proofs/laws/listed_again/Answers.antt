use Rattle.assembler.proofs.Listed.{listing_shows_lines, listed_is_assembled}
use Rattle.assembler.proofs.laws.listed_again.Goals as goal

pub returns-clause-shown : goal.returns-clause-shown
returns-clause-shown c = listing_shows_lines

pub returns-clause-assembled : goal.returns-clause-assembled
returns-clause-assembled c = listed_is_assembled
