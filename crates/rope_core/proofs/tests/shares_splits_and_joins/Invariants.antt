use Rattle.rope_core.proofs.tests.shares_splits_and_joins.Given as goal

abbrev pub ghosts-pieces : goal.ghosts-pieces
ghosts-pieces g a = record { name = a.blank.name; parts = a.blank.parts }
