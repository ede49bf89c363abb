use Rattle.strand.proofs.tests.strands_stand_for_lists.Given as goal

abbrev pub ghosts-cut_and_join : goal.ghosts-cut_and_join
ghosts-cut_and_join g a = record { name = a.blank.name; parts = a.blank.parts }

abbrev pub ghosts-quote_ranges : goal.ghosts-quote_ranges
ghosts-quote_ranges g a = record { name = a.blank.name; parts = a.blank.parts }

abbrev pub ghosts-find_needles : goal.ghosts-find_needles
ghosts-find_needles g a = record { name = a.blank.name; parts = a.blank.parts }

abbrev pub ghosts-share_the_worked_dna : goal.ghosts-share_the_worked_dna
ghosts-share_the_worked_dna g a = record { name = a.blank.name; parts = a.blank.parts }
