use Rattle.dna_reader.proofs.Worked.{pattern_worked, template_worked, search_worked, command_worked, short_command_worked, no_numeral_worked, open_group_worked}
use Rattle.dna_reader.proofs.laws.readings_worked.Goals as goal

pub returns-clause-pattern : goal.returns-clause-pattern
returns-clause-pattern c = pattern_worked

pub returns-clause-template : goal.returns-clause-template
returns-clause-template c = template_worked

pub returns-clause-search : goal.returns-clause-search
returns-clause-search c = search_worked

pub returns-clause-command : goal.returns-clause-command
returns-clause-command c = command_worked

pub returns-clause-short_command : goal.returns-clause-short_command
returns-clause-short_command c = short_command_worked

pub returns-clause-no_numeral : goal.returns-clause-no_numeral
returns-clause-no_numeral c = no_numeral_worked

pub returns-clause-open_group : goal.returns-clause-open_group
returns-clause-open_group c = open_group_worked
