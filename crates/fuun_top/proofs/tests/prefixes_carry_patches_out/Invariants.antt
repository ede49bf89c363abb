use Rattle.fuun_top.proofs.tests.prefixes_carry_patches_out.Given as goal

abbrev pub ghosts-expect_with : goal.ghosts-expect_with
ghosts-expect_with g a = record { name = a.blank.name; parts = a.blank.parts }
