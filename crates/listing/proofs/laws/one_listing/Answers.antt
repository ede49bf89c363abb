use Rattle.listing.proofs.ListLemmas.{has_listing, one_listing}
use Rattle.listing.proofs.laws.one_listing.Goals as goal

pub returns-clause-made : goal.returns-clause-made
returns-clause-made c = has_listing

pub returns-clause-once : goal.returns-clause-once
returns-clause-once c = one_listing
