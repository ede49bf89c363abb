use Rattle.rope_node.proofs.tests.makes_and_shares_nodes.Given as goal

abbrev pub ghosts-nodes : goal.ghosts-nodes
ghosts-nodes g a = record { name = a.blank.name; parts = a.blank.parts }
