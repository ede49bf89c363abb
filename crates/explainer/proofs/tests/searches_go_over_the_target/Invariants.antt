use Rattle.explainer.proofs.tests.searches_go_over_the_target.Given as goal

abbrev pub ghosts-searches : goal.ghosts-searches
ghosts-searches g a = record { name = a.blank.name; parts = a.blank.parts }
