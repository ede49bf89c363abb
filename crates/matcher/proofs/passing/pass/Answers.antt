use Rattle.std.proofs.Common.{◌∙◌, ap, sym, subst, Some, refl, inl, inr}
use Rattle.dna_items.specs.declared.items.PatItem.TheVariants.{Search}
use Rattle.matcher.specs.Step.{Moves}
use Rattle.matcher.proofs.Runs.{passes_item}
use Rattle.matcher.proofs.passing.pass.Goals as goal

pub returns-in-Skip : goal.returns-in-Skip
returns-in-Skip g c =
    passes_item (g.S.Strand.bases c.args.s.now) c.index-items-0.result c.args.items.now c.args.at c.skip.result c.one_item.result c.requires.some (sym c.index-items-0.is)
    (subst (λ x. Moves (g.S.Strand.bases c.args.s.now) x c.args.at c.skip.result) (sym c.in-Skip.is) c.skip.ensures)
    c.one_item.ensures

pub returns-in-GroupStart : goal.returns-in-GroupStart
returns-in-GroupStart g c =
    let d = g.S.Strand.bases c.args.s.now in
    let still : Moves d c.index-items-0.result c.args.at (Some c.args.at) =
    elim c.in-GroupStart.is as (λ _. Moves d c.index-items-0.result c.args.at (Some c.args.at)) [
      | inl e ↦ subst (λ x. Moves d x c.args.at (Some c.args.at)) (sym e) refl
      | inr e ↦ subst (λ x. Moves d x c.args.at (Some c.args.at)) (sym e) refl
    ] in
    passes_item d c.index-items-0.result c.args.items.now c.args.at (Some c.args.at) c.one_item-in-GroupStart.result c.requires.some (sym c.index-items-0.is)
    still c.one_item-in-GroupStart.ensures

pub returns-in_ok-search-in-Search : goal.returns-in_ok-search-in-Search
returns-in_ok-search-in-Search g c =
    let d = g.S.Strand.bases c.args.s.now in
    let is = c.in-Search.is ∙ ap Search (sym c.as_slice.ensures) in
    passes_item d c.index-items-0.result c.args.items.now c.args.at c.in_ok-search-in-Search.field-0 c.one_item-in-Search.result c.requires.some (sym c.index-items-0.is)
    (subst (λ x. Moves d x c.args.at c.in_ok-search-in-Search.field-0) (sym is) c.in_ok-search-in-Search.ensures)
    c.one_item-in-Search.ensures
