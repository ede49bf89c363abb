use Rattle.fuun_top.proofs.tests.a_dna_longer_than_any_memory_is_run.Given as goal

abbrev pub ghosts-expect : goal.ghosts-expect
ghosts-expect g a = record { name = a.blank.name; parts = a.blank.parts }
