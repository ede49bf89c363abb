use Rattle.fuun_top.proofs.tests.summaries_of_loads.Given as goal

abbrev pub ghosts-expect : goal.ghosts-expect
ghosts-expect g a = record { name = a.blank.name; parts = a.blank.parts }
