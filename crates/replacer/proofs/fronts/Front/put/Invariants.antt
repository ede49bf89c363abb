use Rattle.replacer.proofs.fronts.Front.put.Given as goal

abbrev pub ghost-put_group : goal.ghost-put_group
ghost-put_group g a = g.most
