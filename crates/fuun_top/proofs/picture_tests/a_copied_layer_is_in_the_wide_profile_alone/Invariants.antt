use Rattle.fuun_top.proofs.picture_tests.a_copied_layer_is_in_the_wide_profile_alone.Given as goal

abbrev pub ghosts-expect_picture : goal.ghosts-expect_picture
ghosts-expect_picture g a = record { name = a.blank.name; parts = a.blank.parts }
