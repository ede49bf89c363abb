use Rattle.std.proofs.Common.{◌≡◌, ℕ, ◌∙◌, ap, arith, length, sym}
use Rattle.dna_items.specs.declared.items.PatItem.TheVariants.{Skip}
use Rattle.dna_reader.specs.Codes.{pattern_item_code}
use Rattle.source_items.specs.Values.{sum_value}
use Rattle.source_items.proofs.HeldLemmas.{held_small}
use Rattle.source_code.proofs.lengths.sum_len.Goals as goal

pub returns : goal.returns
returns c =
    let value : ℕ = sum_value c.args.own c.args.behind.now c.args.sum.now in
    let exact : c.skip_len.result ≡ length (pattern_item_code (Skip value)) = c.skip_len.ensures.len ∙ ap (λ n. length (pattern_item_code (Skip n))) c.in_ok-value.ensures.1 in
    (c.in_ok-value.ensures.0, exact ∙ sym (held_small (length (pattern_item_code (Skip value))) (omega (arith, exact, c.skip_len.ensures.most))))
