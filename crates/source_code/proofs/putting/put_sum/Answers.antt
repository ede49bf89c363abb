use Rattle.std.proofs.Common.{◌≡◌, ◌++◌, subst}
use Rattle.std.specs.Prelude.{OnOk}
use Rattle.dna_items.specs.declared.items.PatItem.TheVariants.{Skip}
use Rattle.dna_reader.specs.Codes.{pattern_item_code}
use Rattle.source_items.specs.Values.{sum_value}
use Rattle.source_items.proofs.HeldLemmas.{below_is_small}
use Rattle.source_code.proofs.putting.put_sum.Goals as goal

pub returns : goal.returns
returns c =
    subst (λ n. OnOk c.put_skip.result (c.put_skip.new.out.items ≡ c.args.out.now.items ++ pattern_item_code (Skip n)))
    (below_is_small (sum_value c.args.own c.args.behind.now c.args.sum.now) c.sum_value.result c.sum_value.ensures c.requires)
    c.put_skip.ensures
