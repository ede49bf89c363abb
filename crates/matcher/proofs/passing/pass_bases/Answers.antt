use Rattle.std.proofs.Common.{◌≡◌, ◌+◌, ◌∙◌, ap, sym, subst, length, take}
use Rattle.matcher.specs.Step.{LeadsOver}
use Rattle.matcher.proofs.Runs.{Passes, nowhere_run, over_run, run_length}
use Rattle.matcher.proofs.passing.pass_bases.Goals as goal

pub returns-in_err-place : goal.returns-in_err-place
returns-in_err-place g c =
    subst (Passes (g.S.Strand.bases c.args.s.now) c.args.items.now c.args.at) (sym c.from_residual.ensures)
    (nowhere_run (g.S.Strand.bases c.args.s.now) c.args.items.now c.args.at c.literals-count.result _ c.literals-count.ensures.are c.requires.within c.in_err-place.ensures)

pub returns : goal.returns
returns g c =
    let d = g.S.Strand.bases c.args.s.now in
    let count = c.literals-count.result in
    let run = take c.literals-count.result c.literals-count.new.run in
    let size : length run ≡ count = run_length c.args.items.now c.literals-count.new.run count c.literals-count.ensures.are c.literals-count.ensures.within in
    let over : LeadsOver d c.args.items.now c.args.at count (c.args.at + count) =
    over_run d c.args.items.now c.args.at count run c.literals-count.ensures.are (c.literals-count.ensures.some c.requires.begins.0 c.requires.begins.1) c.literals-count.ensures.within c.in_ok-place.ensures.0 in
    subst (LeadsOver d c.args.items.now c.args.at count) (ap (λ n. c.args.at + n) (sym size) ∙ sym c.in_ok-place.ensures.1) over
