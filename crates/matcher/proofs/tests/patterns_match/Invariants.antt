use Rattle.matcher.proofs.tests.patterns_match.Given as goal

abbrev pub ghosts-short_patterns : goal.ghosts-short_patterns
ghosts-short_patterns g a = record { name = a.blank.name; parts = a.blank.parts }

abbrev pub ghosts-long_patterns : goal.ghosts-long_patterns
ghosts-long_patterns g a = record { name = a.blank.name; parts = a.blank.parts }
