use Rattle.conversation.proofs.tests.whole_lines_are_answered_before_more_is_read.Given as goal

abbrev pub ghosts-fail_to_read : goal.ghosts-fail_to_read
ghosts-fail_to_read g a = record { name = a.blank.name; parts = a.blank.parts }
