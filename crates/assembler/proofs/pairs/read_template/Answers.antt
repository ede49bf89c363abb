use Rattle.std.proofs.Common.{◌≡◌, ℕ, ◌+◌, Some, None, arith, drop, length-drop, sym, subst, rules}
use Rattle.dna_items.specs.declared.items.TplItem.{TplItem}
use Rattle.listing.specs.Texts.{template_item_text}
use Rattle.assembler.specs.Ahead.{template_item_ahead}
use Rattle.assembler.specs.Pairs.{HasSmallNumbers}
use Rattle.assembler.proofs.ItemLemmas.{template_reader}
use Rattle.assembler.proofs.Readers.{GoesOn, found_len, goes_on, goes_to_end}
use Rattle.assembler.proofs.pairs.read_template.Goals as goal

pub overflow_add-place : goal.overflow_add-place
overflow_add-place c =
    let next : TplItem × ℕ = (c.in-Some.item, c.in-Some.len) in
    let found : template_item_ahead (drop c.items.place c.args.bytes.now) ≡ Some next = search rules in
    let len = found_len template_item_text HasSmallNumbers template_item_ahead template_reader (drop c.items.place c.args.bytes.now) next found in
    omega (arith, len.1, length-drop c.items.place c.args.bytes.now, c.items.invariant.within)

pub items-smaller : goal.items-smaller
items-smaller c =
    let next : TplItem × ℕ = (c.in-Some.item, c.in-Some.len) in
    let found : template_item_ahead (drop c.items.place c.args.bytes.now) ≡ Some next = search rules in
    let len = found_len template_item_text HasSmallNumbers template_item_ahead template_reader (drop c.items.place c.args.bytes.now) next found in
    omega (arith, len.0, len.1, length-drop c.items.place c.args.bytes.now, c.items.invariant.within)

pub items-preserved : goal.items-preserved
items-preserved c =
    let next : TplItem × ℕ = (c.in-Some.item, c.in-Some.len) in
    let found : template_item_ahead (drop c.items.place c.args.bytes.now) ≡ Some next = search rules in
    let len = found_len template_item_text HasSmallNumbers template_item_ahead template_reader (drop c.items.place c.args.bytes.now) next found in
    record {
      within = omega (arith, len.1, length-drop c.items.place c.args.bytes.now, c.items.invariant.within);
      goes_on = subst (λ xs. GoesOn template_item_ahead c.args.bytes.now xs (c.items.place + c.in-Some.len)) (sym c.in_ok-push.ensures.added)
          (goes_on template_item_ahead c.args.bytes.now c.items.items c.items.place c.in-Some.item c.in-Some.len found c.items.invariant.goes_on);
    }

pub returns : goal.returns
returns c =
    let none : template_item_ahead (drop c.items.place c.args.bytes.now) ≡ None = search rules in
    goes_to_end template_item_ahead c.args.bytes.now c.items.items c.items.place none c.items.invariant.goes_on
