use Rattle.cell_rope.proofs.tests.parts_are_cut_and_joined.Given as goal

abbrev pub ghosts-parts : goal.ghosts-parts
ghosts-parts g a = record { name = a.blank.name; parts = a.blank.parts }
