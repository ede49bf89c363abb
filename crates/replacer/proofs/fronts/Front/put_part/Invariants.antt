use Rattle.replacer.proofs.fronts.Front.put_part.Given as goal

abbrev pub ghost-joined : goal.ghost-joined
ghost-joined g a = g.most
