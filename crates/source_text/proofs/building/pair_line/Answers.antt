use Rattle.std.proofs.Common.{◌≡◌, ◌+◌, ◌<◌, ◌^◌, ◌∙◌, ap, inl, inr, min, subst, sym}
use Rattle.source_items.specs.declared.lines.Line.TheVariants.{Pair}
use Rattle.source_items.specs.Held.{IsHeldLong}
use Rattle.source_text.specs.Pieces.{pattern_of, template_of}
use Rattle.source_text.proofs.BuildingLemmas.{long_pair, none_past, whole_within}
use Rattle.source_text.proofs.building.pair_line.Goals as goal

pub returns-then-is_past : goal.returns-then-is_past
returns-then-is_past c x y first second =
    inr (subst (λ line. IsHeldLong c.args.limit (Pair (pattern_of x) (template_of y)) line) (sym c.in_ok-line.ensures.line)
    (long_pair c.args.limit c.held_sum-len.result c.args.pattern.count c.args.pattern.measure c.args.template.measure x y first.measured second.measured
    (c.held_sum-len.ensures ∙ ap (λ n. min (n + 6) (2 ^ 63)) c.held_sum.ensures) first.counted (subst (λ n. c.args.limit < n) c.max-least.ensures c.in_ok-line.ensures.past)))

pub returns : goal.returns
returns c x y first second =
    let within = none_past c.args.limit c.args.pattern.count c.args.template.count (sym c.is_past.ensures ∙ c.if-is_past.false) in
    let pattern : c.in_ok-items.items ≡ pattern_of x = c.in_ok-items.ensures ∙ ap pattern_of (c.as_slice.ensures.value ∙ whole_within c.args.limit c.args.pattern x c.requires first within.0) in
    let template : c.in_ok-template.template ≡ template_of y = c.in_ok-template.ensures ∙ ap template_of (c.as_slice-2.ensures.value ∙ whole_within c.args.limit c.args.template y c.requires second within.1) in
    inl (ap (λ p. Pair p c.in_ok-template.template) pattern ∙ ap (λ t. Pair (pattern_of x) t) template)
