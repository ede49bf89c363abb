use Rattle.rope_strand.proofs.tests.stands_for_lists.Given as goal

abbrev pub ghosts-lists : goal.ghosts-lists
ghosts-lists g a = record { name = a.blank.name; parts = a.blank.parts }
