use Rattle.rope_search.proofs.tests.finds_over_leaves.Given as goal

abbrev pub ghosts-over_leaves : goal.ghosts-over_leaves
ghosts-over_leaves g a = record { name = a.blank.name; parts = a.blank.parts }
