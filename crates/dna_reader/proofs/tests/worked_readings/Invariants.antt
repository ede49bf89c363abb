use Rattle.dna_reader.proofs.tests.worked_readings.Given as goal

abbrev pub ghosts-patterns : goal.ghosts-patterns
ghosts-patterns g a = record { name = a.blank.name; parts = a.blank.parts }

abbrev pub ghosts-templates : goal.ghosts-templates
ghosts-templates g a = record { name = a.blank.name; parts = a.blank.parts }

abbrev pub ghosts-prefixes : goal.ghosts-prefixes
ghosts-prefixes g a = record { name = a.blank.name; parts = a.blank.parts }

abbrev pub ghosts-numbers : goal.ghosts-numbers
ghosts-numbers g a = record { name = a.blank.name; parts = a.blank.parts }
