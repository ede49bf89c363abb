use Rattle.rope_core.proofs.tests.builds_and_cuts.Given as goal

abbrev pub ghosts-sizes : goal.ghosts-sizes
ghosts-sizes g a = record { name = a.blank.name; parts = a.blank.parts }
