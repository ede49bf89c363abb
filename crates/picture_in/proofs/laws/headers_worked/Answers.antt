use Rattle.std.proofs.Common.{refl}
use Rattle.picture_in.specs.Header.{behind_header, behind_word}
use Rattle.picture_in.proofs.laws.headers_worked.Goals as goal

pub returns-clause-plain : goal.returns-clause-plain
unfolding behind_header behind_word
returns-clause-plain c = refl

pub returns-clause-comment : goal.returns-clause-comment
unfolding behind_header behind_word
returns-clause-comment c = refl

pub returns-clause-zeros : goal.returns-clause-zeros
unfolding behind_header behind_word
returns-clause-zeros c = refl

pub returns-clause-open : goal.returns-clause-open
unfolding behind_header behind_word
returns-clause-open c = refl
