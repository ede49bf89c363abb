use Rattle.std.proofs.Common.{◌∙◌, refl}
use Rattle.std.proofs.lemmas.Result.{MatchResult-from_err}
use Rattle.listing.specs.Texts.{pattern_item_text}
use Rattle.listing.proofs.PutLemmas.{items_more, items_part}
use Rattle.listing.proofs.items.put_pattern_items.Goals as goal

pub returns-in_err-put_pattern_item-clause-puts : goal.returns-in_err-put_pattern_item-clause-puts
returns-in_err-put_pattern_item-clause-puts g c =
    MatchResult-from_err c.from_residual.result _ _ c.from_residual.ensures.0
    (λ _. items_part pattern_item_text c.args.items.now c.args.items.now c.loop-item.item-index c.item-item.result _ _ _ refl c.loop-item-test.true c.item-item.is c.loop-item.invariant.put c.in_err-put_pattern_item.ensures.puts)

pub loop-item-preserved : goal.loop-item-preserved
loop-item-preserved g c = record {
  put = items_more pattern_item_text c.args.items.now c.loop-item.item-index c.item-item.result _ _ _ c.loop-item-test.true c.item-item.is c.loop-item.invariant.put c.in_ok-put_pattern_item.ensures.puts;
  faults = c.in_ok-put_pattern_item.ensures.cause ∙ c.loop-item.invariant.faults;
}
