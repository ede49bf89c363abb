use Rattle.tracer.proofs.tests.traces_as_worked.Given as goal

abbrev pub ghosts-trace_rows : goal.ghosts-trace_rows
ghosts-trace_rows g a = record { name = a.blank.name; parts = a.blank.parts }

abbrev pub ghosts-trace_great_numbers : goal.ghosts-trace_great_numbers
ghosts-trace_great_numbers g a = record { name = a.blank.name; parts = a.blank.parts }

abbrev pub ghosts-keep_the_limit : goal.ghosts-keep_the_limit
ghosts-keep_the_limit g a = record { name = a.blank.name; parts = a.blank.parts }

abbrev pub ghosts-fail_in_a_line : goal.ghosts-fail_in_a_line
ghosts-fail_in_a_line g a = record { name = a.blank.name; parts = a.blank.parts }
