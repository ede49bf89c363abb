use Rattle.std.proofs.Common.{◌≡◌, ◌==◌, ◌*◌, ◌||◌, ℕ, length, ap, sym, ◌∙◌, arith, true}
use Rattle.dna_items.specs.declared.items.PatItem.TheVariants.{Skip}
use Rattle.dna_reader.specs.Codes.{pattern_item_code}
use Rattle.source_items.specs.Lines.{is_small}
use Rattle.source_items.specs.Values.{sum_value}
use Rattle.dna_items.specs.Held.{held}
use Rattle.source_items.proofs.HeldLemmas.{held_zero, or_true, product_held}
use Rattle.source_code.proofs.lengths.counted_len.Goals as goal

pub returns-then-skip-eq0 : goal.returns-then-skip-eq0
returns-then-skip-eq0 c =
    let one : ℕ = length (pattern_item_code (Skip (sum_value c.args.own c.args.behind.now c.args.skip.now.sum))) in
    let none : c.args.skip.now.count * one ≡ 0 = ap (λ n. n * one) c.if-skip-eq0.true ∙ omega arith in (
      ap (λ n. n == 0 || is_small c.args.own c.args.behind.now c.args.skip.now.sum) c.if-skip-eq0.true,
      sym (ap held none ∙ held_zero),
    )

pub returns : goal.returns
returns c =
    let sum = c.args.skip.now.sum in
    let same : c.as_slice.result.now ≡ sum = c.as_slice.ensures in
    let small : is_small c.args.own c.args.behind.now sum ≡ true = ap (λ s. is_small c.args.own c.args.behind.now s) (sym same) ∙ c.in_ok-len.ensures.0 in
    let one : ℕ = length (pattern_item_code (Skip (sum_value c.args.own c.args.behind.now sum))) in
    let len : c.in_ok-len.len ≡ held one = c.in_ok-len.ensures.1 ∙ ap (λ s. held (length (pattern_item_code (Skip (sum_value c.args.own c.args.behind.now s))))) same in (
      ap (λ b. c.args.skip.now.count == 0 || b) small ∙ or_true (c.args.skip.now.count == 0),
      c.held_product.ensures ∙ product_held c.args.skip.now.count c.in_ok-len.len one len,
    )
