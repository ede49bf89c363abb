use Rattle.patch_compile.proofs.Worked as worked
use Rattle.patch_compile.proofs.laws.prefixes_worked.Goals as goal

pub returns-clause-edited : goal.returns-clause-edited
returns-clause-edited c = worked.edit_worked

pub returns-clause-edited_twice : goal.returns-clause-edited_twice
returns-clause-edited_twice c = worked.two_edits_worked

pub returns-clause-moved : goal.returns-clause-moved
returns-clause-moved c = worked.move_worked

pub returns-clause-copied : goal.returns-clause-copied
returns-clause-copied c = worked.copy_worked
