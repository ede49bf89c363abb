use Rattle.std.proofs.Common.{sym, subst, ap, ◌∙◌, drop}
use Rattle.dna_reader.specs.Constants.{IsConstants, consts}
use Rattle.dna_reader.proofs.ConstantLemmas.{constants_are_longest}
use Rattle.dna_reader.proofs.numerals.read_consts.Goals as goal

pub returns-clause-longest : goal.returns-clause-longest
returns-clause-longest g c =
    let same = c.in_ok-constants.ensures.bases ∙ ap (λ n. consts (drop n (g.S.Strand.bases c.args.s.now))) c.at-window.ensures.place in
    subst (λ l. IsConstants l (drop c.args.place (g.S.Strand.bases c.args.s.now))) (sym same) (constants_are_longest (drop c.args.place (g.S.Strand.bases c.args.s.now)))
