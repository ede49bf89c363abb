use Rattle.letters_out.proofs.tests.letters_as_worked.Given as goal

abbrev pub ghosts-put_ranges : goal.ghosts-put_ranges
ghosts-put_ranges g a = record { name = a.blank.name; parts = a.blank.parts }

abbrev pub ghosts-put_long_texts : goal.ghosts-put_long_texts
ghosts-put_long_texts g a = record { name = a.blank.name; parts = a.blank.parts }
