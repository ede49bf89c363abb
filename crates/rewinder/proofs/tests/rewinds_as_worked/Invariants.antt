use Rattle.rewinder.proofs.tests.rewinds_as_worked.Given as goal

abbrev pub ghosts-obey_scripts : goal.ghosts-obey_scripts
ghosts-obey_scripts g a = record { name = a.blank.name; parts = a.blank.parts }

abbrev pub ghosts-keep_what_was_reached : goal.ghosts-keep_what_was_reached
ghosts-keep_what_was_reached g a = record { name = a.blank.name; parts = a.blank.parts }

abbrev pub ghosts-fail_in_a_line : goal.ghosts-fail_in_a_line
ghosts-fail_in_a_line g a = record { name = a.blank.name; parts = a.blank.parts }
