use Rattle.conversation.proofs.tests.a_write_that_fails_is_a_fault.Given as goal

abbrev pub ghosts-fail_to_write : goal.ghosts-fail_to_write
ghosts-fail_to_write g a = record { name = a.blank.name; parts = a.blank.parts }
