use Rattle.dna_reader.proofs.tests.lines_stop_at_a_fault.Given as goal

abbrev pub ghosts-two_lines : goal.ghosts-two_lines
ghosts-two_lines g a = record { name = a.blank.name; parts = a.blank.parts }
