use Rattle.replacer.proofs.cuts.Cuts.of_group.Given as goal

abbrev pub ghost-keep : goal.ghost-keep
ghost-keep g a = g.texts
