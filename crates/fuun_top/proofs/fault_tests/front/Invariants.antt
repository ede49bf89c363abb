use Rattle.fuun_top.proofs.fault_tests.front.Given as goal

abbrev pub ghosts-front_counted : goal.ghosts-front_counted
ghosts-front_counted g a = record { name = a.blank.name; parts = a.blank.parts }
