use Rattle.std.proofs.Common.{length, max}
use Rattle.replacer.specs.Replacement.{replacement, texts_of}
use Rattle.replacer.proofs.replacing.replace.Given as goal

abbrev pub ghost-put_all : goal.ghost-put_all
ghost-put_all g a =
    let d = g.S.Strand.bases a.s.now in max (length d) (length (replacement (texts_of d a.groups.now) a.tpl.now))
