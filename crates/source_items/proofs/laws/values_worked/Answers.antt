use Rattle.source_items.proofs.Worked.{long_is_worked, own_length_worked, values_are_worked}
use Rattle.source_items.proofs.laws.values_worked.Goals as goal

pub returns-clause-own : goal.returns-clause-own
returns-clause-own c = own_length_worked

pub returns-clause-values : goal.returns-clause-values
returns-clause-values c = values_are_worked

pub returns-clause-long : goal.returns-clause-long
returns-clause-long c = long_is_worked
