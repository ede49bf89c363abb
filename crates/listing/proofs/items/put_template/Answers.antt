use Rattle.std.proofs.Common.{◌∙◌}
use Rattle.std.proofs.lemmas.Result.{MatchResult-from_err}
use Rattle.listing.specs.Texts.{template_item_text}
use Rattle.listing.proofs.PutLemmas.{items_more_at, items_part_at}
use Rattle.listing.proofs.items.put_template.Goals as goal

pub returns-in_err-put_template_item-clause-puts : goal.returns-in_err-put_template_item-clause-puts
returns-in_err-put_template_item-clause-puts g c =
    MatchResult-from_err c.from_residual.result _ _ c.from_residual.ensures.0
    (λ _. items_part_at template_item_text c.as_slice-item-items.result.now c.args.items.now c.loop-item.item-index _ _ _ _ c.as_slice-item-items.ensures c.loop-item-test.true c.loop-item.invariant.put c.in_err-put_template_item.ensures.puts)

pub loop-item-preserved : goal.loop-item-preserved
loop-item-preserved g c = record {
  put = items_more_at template_item_text c.as_slice-item-items.result.now c.loop-item.item-index _ _ _ _ c.loop-item-test.true c.loop-item.invariant.put c.in_ok-put_template_item.ensures.puts;
  faults = c.in_ok-put_template_item.ensures.cause ∙ c.loop-item.invariant.faults;
}
