use Rattle.explainer.proofs.tests.searches_go_over_long_stretches.Given as goal

abbrev pub ghosts-long_searches : goal.ghosts-long_searches
ghosts-long_searches g a = record { name = a.blank.name; parts = a.blank.parts }
