use Rattle.listing.proofs.tests.the_pairs_of_a_dna.Given as goal

abbrev pub ghosts-list_worked : goal.ghosts-list_worked
ghosts-list_worked g a = record { name = a.blank.name; parts = a.blank.parts }
