use Rattle.rope_search.proofs.WorkedRow.{made_row}
use Rattle.rope_search.proofs.tests.worked_row.Goals as goal

pub returns : goal.returns
returns c = made_row 512 511
