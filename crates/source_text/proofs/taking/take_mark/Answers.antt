use Rattle.std.proofs.Common.{◌∙◌, Ok, ap, subst, sym}
use Rattle.source_text.specs.Judging.{label_faults}
use Rattle.source_text.specs.Keeping.{AreKnown}
use Rattle.source_text.specs.Taking.{refusal_of}
use Rattle.source_text.proofs.TakingLemmas.{judged_none, judged_some}
use Rattle.source_text.proofs.taking.take_mark.Goals as goal

pub returns-in-Some : goal.returns-in-Some
returns-in-Some c before tokens is =
    let known = subst (λ l. AreKnown c.args.reading.now.limit l before.names) (sym c.as_slice.ensures.value) is.known in
    judged_some (label_faults (before.names c.args.name.id) c.args.name.at) (Ok before) c.in-Some.refusal
    (c.in-Some.ensures ∙ ap refusal_of (c.label_faults.ensures c.args.reading.now.limit before.names known))

pub returns-in-None : goal.returns-in-None
returns-in-None c before tokens is =
    let known = subst (λ l. AreKnown c.args.reading.now.limit l before.names) (sym c.as_slice.ensures.value) is.known in (
      before,
      judged_none (label_faults (before.names c.args.name.id) c.args.name.at) (Ok before) (c.in-None.ensures ∙ ap refusal_of (c.label_faults.ensures c.args.reading.now.limit before.names known)),
      is,
    )
