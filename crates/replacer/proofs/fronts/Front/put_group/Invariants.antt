use Rattle.replacer.specs.Replacement.{texts_of}
use Rattle.replacer.proofs.fronts.Front.put_group.Given as goal

abbrev pub ghost-of_group : goal.ghost-of_group
ghost-of_group g a = texts_of (g.S.Strand.bases a.s.now) a.groups.now

abbrev pub ghost-put_part : goal.ghost-put_part
ghost-put_part g a = g.most
