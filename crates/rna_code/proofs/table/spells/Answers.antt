use Rattle.std.proofs.Common.{rules}
use Rattle.rna_code.specs.Commands.{spells}
use Rattle.rna_code.proofs.table.spells.Goals as goal

pub returns : goal.returns
unfolding spells
returns c = search rules
