use Rattle.std.proofs.Common.{subst}
use Rattle.std.proofs.lemmas.Option.{MatchOption-at_some, MatchOption-at_none}
use Rattle.matcher.specs.Step.{LeadNowhere, LeadsOver}
use Rattle.match_text.proofs.PlaceLemmas.{one_item, one_leads, one_stuck}
use Rattle.match_text.proofs.places.place_behind.Goals as goal

pub returns-in_default : goal.returns-in_default
returns-in_default g c item there =
    let d = g.T.Strand.bases c.args.dna.now in
    one_stuck d item c.args.at
    (subst (λ xs. LeadNowhere d xs c.args.at) (one_item c.args.items.now c.args.index item there) (MatchOption-at_none _ _ c.in_default.is c.in_ok-passed.ensures))

pub returns : goal.returns
returns g c item there =
    let d = g.T.Strand.bases c.args.dna.now in
    one_leads d item c.args.at c.in-Some.passed.count c.in-Some.passed.place
    (subst (λ xs. LeadsOver d xs c.args.at c.in-Some.passed.count c.in-Some.passed.place) (one_item c.args.items.now c.args.index item there) (MatchOption-at_some _ _ c.in-Some.passed c.in-Some.is c.in_ok-passed.ensures))
