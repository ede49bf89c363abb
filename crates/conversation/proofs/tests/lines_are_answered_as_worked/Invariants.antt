use Rattle.conversation.proofs.tests.lines_are_answered_as_worked.Given as goal

abbrev pub ghosts-answer_lines : goal.ghosts-answer_lines
ghosts-answer_lines g a = record { name = a.blank.name; parts = a.blank.parts }
