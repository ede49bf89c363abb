use Rattle.std.proofs.Common.{◌∷◌, ◌++◌, [], subst, sym}
use Rattle.source_text.specs.Judging.{placed}
use Rattle.source_text.specs.Taking.{AreKept}
use Rattle.source_text.proofs.TakingLemmas.{kept_more}
use Rattle.source_text.proofs.taking.add_line.Goals as goal

pub returns-clause-value : goal.returns-clause-value
returns-clause-value c before x is held =
    let more = kept_more c.args.reading.now.limit c.args.at c.args.reading.now.lines c.args.reading.now.places before.lines x c.args.line is.lines held in
    record {
      known = is.known;
      lines =
          subst (λ l. AreKept c.args.reading.now.limit l c.push-2.new.self (before.lines ++ placed x c.args.at ∷ [])) (sym c.in_ok-push.ensures.added)
          (subst (λ p. AreKept c.args.reading.now.limit (c.args.reading.now.lines ++ c.args.line ∷ []) p (before.lines ++ placed x c.args.at ∷ [])) (sym c.in_ok-push-2.ensures.added) more);
    }
