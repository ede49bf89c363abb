use Rattle.exec_loop.proofs.tests.runs_as_worked.Given as goal

abbrev pub ghosts-make_runs : goal.ghosts-make_runs
ghosts-make_runs g a = record { name = a.blank.name; parts = a.blank.parts }
