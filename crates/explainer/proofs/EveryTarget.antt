-- An answer holds of the machine for every target.
use Rattle.std.proofs.Common.{◌≡◌, ℕ, Bool, true, false, List, length, sym, ap, subst, ◌∙◌}
use Rattle.fuun_base.specs.declared.letters.Base.{Base}
use Rattle.exec_loop.specs.declared.machine.RunEnd.{RunEnd}
use Rattle.sym_strand.specs.Cells.{start_cells}
use Rattle.explainer.specs.Filling.{fill}
use Rattle.explainer.specs.Run.{end_of, Explains}
use Rattle.explainer.specs.Laws.{EndsAlike, RunsAlike}
use Rattle.explainer.specs.Answers.{RangesWithin, told_end, IsAsTold, FoundForEveryTarget, TooLongForEveryTarget}
use Rattle.explainer.specs.declared.explained.Explained.{Explained}
use Rattle.explainer.proofs.FilledRuns.{run_is_filled}
use Rattle.explainer.proofs.Explanations.{told_not_depending, long_not_depending}
use Rattle.explainer.proofs.RangesWithin.{CellsWithin, within_start, run_within, ranges_within, segments_filled}

end_told : (finished : Bool) (attempts : ℕ) (end : RunEnd) → EndsAlike (end_of finished attempts) end → end ≡ told_end finished attempts
end_told true attempts end alike = alike
end_told false attempts end alike = alike

found_within : (prefix : List Base) (target budget limit : ℕ) (found : Explained) → Explains prefix target budget limit found → RangesWithin target found.segs
found_within prefix target budget limit found x =
    let cells : CellsWithin target x.run.cells = run_within target (start_cells prefix target) budget limit x.run x.run.end x.is (within_start prefix target) in
    ranges_within target found.segs x.segs.some (subst (CellsWithin target) (sym x.segs.cells) cells)

as_told : (prefix d : List Base) (target budget limit : ℕ) (found : Explained) → length d ≡ target → Explains prefix target budget limit found → IsAsTold prefix d budget limit found
as_told prefix d target budget limit found is x =
    let alike : RunsAlike prefix d budget limit x.run =
    run_is_filled prefix target budget limit x.run d is x.is (λ attempt e. told_not_depending found.finished found.attempts attempt (sym x.ends ∙ e)) in
    let within : RangesWithin (length d) found.segs = subst (λ n. RangesWithin n found.segs) (sym is) (found_within prefix target budget limit found x) in
    record {
      made = alike.made;
      is = alike.is;
      ends = end_told found.finished found.attempts alike.made.end (subst (λ e. EndsAlike e alike.made.end) x.ends alike.ends);
      number = alike.number ∙ x.number;
      rna = alike.rna ∙ sym x.rna;
      dna = alike.dna ∙ ap (fill d) (sym x.segs.cells) ∙ segments_filled d found.segs within;
    }

pub found_for_every_target : FoundForEveryTarget
found_for_every_target prefix target budget limit found x =
    (found_within prefix target budget limit found x, λ d is. as_told prefix d target budget limit found is x)

pub too_long_for_every_target : TooLongForEveryTarget
too_long_for_every_target prefix target budget limit attempt x d is =
    let alike : RunsAlike prefix d budget limit x.run = run_is_filled prefix target budget limit x.run d is x.is (λ k e. long_not_depending attempt k (sym x.ends ∙ e)) in
    record { made = alike.made; is = alike.is; ends = subst (λ e. EndsAlike e alike.made.end) x.ends alike.ends }
