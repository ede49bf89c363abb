use Rattle.std.proofs.Common.{◌≡◌, ◌+◌, Some, rules}
use Rattle.std.specs.Prelude.{slice_get}
use Rattle.sym_strand.specs.declared.cells.Cell.TheVariants.{Known}
use Rattle.explainer.proofs.FitLemmas.{out_shifted}
use Rattle.explainer.proofs.searching.past_other.Goals as goal

pub returns-in-Some-Known-clause-out : goal.returns-in-Some-Known-clause-out
returns-in-Some-Known-clause-out c =
    let seen = c.in-Some-Known.seen in
    let there : slice_get c.args.dna.now (c.args.place + c.args.at) ≡ Some (Known seen) = search rules in
    out_shifted c.args.needle.now c.args.dna.now c.args.place c.args.at c.shift_to.result seen c.requires there c.shift_to.ensures.most c.shift_to.ensures.passed
