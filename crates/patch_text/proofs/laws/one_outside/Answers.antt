use Rattle.patch_text.proofs.Outsides.{outside_is_first, fit_has_no_outside, outside_is_one}
use Rattle.patch_text.proofs.laws.one_outside.Goals as goal

pub returns-clause-first : goal.returns-clause-first
returns-clause-first c = outside_is_first

pub returns-clause-none : goal.returns-clause-none
returns-clause-none c = fit_has_no_outside

pub returns-clause-once : goal.returns-clause-once
returns-clause-once c = outside_is_one
