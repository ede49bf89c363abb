use Rattle.fuun_top.proofs.ChainedListing as listings
use Rattle.fuun_top.proofs.laws.assembled_is_listed.Goals as goal

pub returns-clause-shown : goal.returns-clause-shown
returns-clause-shown c = listings.assembled_is_listed

pub returns-clause-again : goal.returns-clause-again
returns-clause-again c = listings.listed_is_assembled_again
