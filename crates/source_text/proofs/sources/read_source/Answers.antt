use Rattle.std.proofs.Common.{[], subst, sym}
use Rattle.source_items.specs.Held.{AreHeld}
use Rattle.source_tokens.specs.Statements.{statements}
use Rattle.source_text.specs.Judging.{state}
use Rattle.source_text.specs.Keeping.{AreKnown}
use Rattle.source_text.specs.Names.{first_meanings}
use Rattle.source_text.specs.Sources.{labels, labels_of, taken_all}
use Rattle.source_text.specs.Taking.{AreKept, IsTaken}
use Rattle.source_text.proofs.SourceLemmas.{lines_taken}
use Rattle.source_text.proofs.sources.read_source.Goals as goal

pub returns : goal.returns
returns c =
    let limit = c.args.limit in
    let all = statements c.args.source.now in
    let names = labels_of (labels first_meanings 0) all in
    let known =
    subst (λ s. AreKnown limit c.add_labels.new.known.items (labels_of (labels first_meanings 0) s)) c.in_ok-new.ensures
    (c.in_ok-add_labels.ensures limit first_meanings c.in_ok-known.ensures) in
    let lines : AreKept limit c.new-2.result c.new-3.result [] = record { held = subst (λ l. AreHeld limit [] l) (sym c.new-2.ensures) tt; stand = c.new-3.ensures } in
    let taken =
    subst (λ s. IsTaken c.take_all.new.reading c.in_ok-refusal.field-0 (taken_all limit (state names []) s)) c.in_ok-new-2.ensures
    (c.in_ok-refusal.ensures.value (state names []) (record { known = known; lines = lines })) in
    lines_taken limit c.args.source.now c.take_all.new.reading c.in_ok-refusal.field-0 c.in_default.field-0 c.in_ok-refusal.ensures.limit c.in_default.is taken
