use Rattle.fuun_top.proofs.picture_tests.drawings_of_small_files.Given as goal

abbrev pub ghosts-expect_picture : goal.ghosts-expect_picture
ghosts-expect_picture g a = record { name = a.blank.name; parts = a.blank.parts }
