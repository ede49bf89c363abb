use Rattle.std.proofs.Common.{◌++◌, codes, ap, sym, ◌∙◌}
use Rattle.tracer.proofs.TraceLemmas.{puts_of}
use Rattle.listing.specs.Texts.{pair_text}
use Rattle.tracer.specs.Lines.{outcome_text}
use Rattle.tracer.proofs.lines.put_outcome.Goals as goal

pub returns-in-NoMatch-clause-puts : goal.returns-in-NoMatch-clause-puts
returns-in-NoMatch-clause-puts g c =
    let report = c.args.report.now in
    puts_of _ _ _ _ c.put_items-in-NoMatch.result
    (ap (λ l. pair_text report.pattern report.template ++ (codes " | no match | " ++ (l ++ codes "\n"))) c.number-next_len.ensures
    ∙ ap (λ o. outcome_text report.pattern report.template o c.args.next_len) (sym c.in-NoMatch.is))
    c.put_items-in-NoMatch.ensures.puts

pub returns-in-TooLong-clause-puts : goal.returns-in-TooLong-clause-puts
returns-in-TooLong-clause-puts g c =
    let report = c.args.report.now in
    puts_of _ _ _ _ c.put_items-in-TooLong.result (ap (λ o. outcome_text report.pattern report.template o c.args.next_len) (sym c.in-TooLong.is)) c.put_items-in-TooLong.ensures.puts
