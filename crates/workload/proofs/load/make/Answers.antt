use Rattle.std.proofs.Common.{rules, ap, ◌∙◌, ◌≡◌, length, subst, sym}
use Rattle.patch_text.specs.Lengths.{AllFit}
use Rattle.workload.specs.Load.{patches_of, target_of, rows_drawn}
use Rattle.workload.specs.Numbers.{bases_drawn, behind}
use Rattle.workload.proofs.Drawing.{all_filled, length-bases_drawn}
use Rattle.workload.proofs.Rows.{all_fit}
use Rattle.workload.proofs.load.make.Goals as goal

pub returns-clause-target : goal.returns-clause-target
unfolding target_of
returns-clause-target c =
    let room : length c.deref_mut.result.now ≡ c.args.size = search rules in
    let drawn : c.fill.new.slots ≡ bases_drawn c.args.size c.args.seed = c.fill.ensures.bases ∙ ap (λ k. bases_drawn k c.new-numbers.result) room ∙ ap (bases_drawn c.args.size) c.new-numbers.ensures in
    let whole : length c.fill.new.slots ≡ c.args.size = ap length drawn ∙ length-bases_drawn c.args.size c.args.seed in
    c.in_ok-from_vec.ensures ∙ all_filled c.fill.new.slots _ c.in_ok-target.target.len (c.in_ok-target.ensures.len ∙ sym whole) ∙ drawn

pub returns-clause-patches : goal.returns-clause-patches
unfolding patches_of
returns-clause-patches c =
    let room : length c.deref_mut.result.now ≡ c.args.size = search rules in
    let state : c.fill.new.self ≡ behind c.args.size c.args.seed = c.fill.ensures.state ∙ ap (λ k. behind k c.new-numbers.result) room ∙ ap (behind c.args.size) c.new-numbers.ensures in
    c.in_ok-draw_patches.ensures ∙ ap (λ s. record { stated = c.args.size; rows = rows_drawn c.args.rounds c.args.size s }) state

pub returns-clause-fits : goal.returns-clause-fits
returns-clause-fits c = subst (AllFit c.args.size) (sym (ap (λ file. file.rows) c.in_ok-draw_patches.ensures)) (all_fit c.args.rounds c.args.size c.fill.new.self)
