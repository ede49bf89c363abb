use Rattle.std.proofs.Common.{◌≤◌, ◌∙◌, arith, ap, inl, inr, refl, subst, sym}
use Rattle.source_items.specs.declared.lines.Line.TheVariants.{Long, Plain}
use Rattle.source_items.specs.Held.{IsHeldLong}
use Rattle.source_text.specs.Pieces.{bases_of}
use Rattle.source_text.proofs.BuildingLemmas.{long_plain, whole_within}
use Rattle.source_text.proofs.building.plain_line.Goals as goal

pub returns-then-bases-limit : goal.returns-then-bases-limit
returns-then-bases-limit c x is =
    inr (subst (λ line. IsHeldLong c.args.limit (Plain (bases_of x)) line) (sym (c.in_ok-line.ensures.line ∙ ap (λ skips. Long skips c.args.bases.measure.plain) c.new.ensures.items))
    (long_plain c.args.limit c.args.bases.measure.plain c.args.bases.measure x is.measured refl c.in_ok-line.ensures.past))

pub returns : goal.returns
returns c x is =
    let within : c.args.bases.count ≤ c.args.limit = omega (arith, c.if-bases-limit.false) in
    inl (ap (λ bases. Plain bases) (c.in_ok-list.ensures ∙ ap bases_of (c.as_slice.ensures.value ∙ whole_within c.args.limit c.args.bases x c.requires is within)))
