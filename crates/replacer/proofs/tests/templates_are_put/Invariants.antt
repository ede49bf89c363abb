use Rattle.replacer.proofs.tests.templates_are_put.Given as goal

abbrev pub ghosts-put_items : goal.ghosts-put_items
ghosts-put_items g a = record { name = a.blank.name; parts = a.blank.parts }

abbrev pub ghosts-keep_limits : goal.ghosts-keep_limits
ghosts-keep_limits g a = record { name = a.blank.name; parts = a.blank.parts }

abbrev pub ghosts-share_groups : goal.ghosts-share_groups
ghosts-share_groups g a = record { name = a.blank.name; parts = a.blank.parts }
