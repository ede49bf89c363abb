use Rattle.dna_reader.proofs.CommandLemmas.{pattern_gives, template_gives}
use Rattle.dna_reader.proofs.laws.short_commands.Goals as goal

pub returns-clause-pattern : goal.returns-clause-pattern
returns-clause-pattern c = pattern_gives

pub returns-clause-template : goal.returns-clause-template
returns-clause-template c = template_gives
