use Rattle.fuun_top.proofs.tests.sources_of_small_files.Given as goal

abbrev pub ghosts-expect : goal.ghosts-expect
ghosts-expect g a = record { name = a.blank.name; parts = a.blank.parts }
