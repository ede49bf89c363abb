use Rattle.picture_in.proofs.FormLemmas.{header_is_found, only_header_is_found}
use Rattle.picture_in.proofs.laws.headers_are_of_the_form.Goals as goal

pub returns-clause-found : goal.returns-clause-found
returns-clause-found c = header_is_found

pub returns-clause-only : goal.returns-clause-only
returns-clause-only c = only_header_is_found
