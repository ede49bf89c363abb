use Rattle.exec_loop.proofs.tests.steps_as_worked.Given as goal

abbrev pub ghosts-read_great_numbers : goal.ghosts-read_great_numbers
ghosts-read_great_numbers g a = record { name = a.blank.name; parts = a.blank.parts }

abbrev pub ghosts-keep_the_limit : goal.ghosts-keep_the_limit
ghosts-keep_the_limit g a = record { name = a.blank.name; parts = a.blank.parts }
