use Rattle.std.proofs.Common.{subst, sym}
use Rattle.source_text.specs.declared.sequences.Kind.TheVariants.{Template}
use Rattle.source_text.specs.Keeping.{Reads}
use Rattle.source_text.specs.Sequences.{own_by}
use Rattle.source_text.proofs.sequences.template_part.Goals as goal

pub returns-in_ok-read-in-Bar-clause-value : goal.returns-in_ok-read-in-Bar-clause-value
returns-in_ok-read-in-Bar-clause-value c names line inside =
    subst (λ w. Reads c.args.scope.now.limit c.in_ok-read-in-Bar.read (own_by names line inside Template w c.args.at c.args.rest.now)) (sym c.in-Bar.is) (c.in_ok-read-in-Bar.ensures.value names line inside)
