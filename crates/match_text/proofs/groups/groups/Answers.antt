use Rattle.std.proofs.Common.{subst, sym}
use Rattle.matcher.specs.Found.{Finds}
use Rattle.match_text.specs.Groups.{AreMovedGroups}
use Rattle.match_text.proofs.LawLemmas.{groups_matched, groups_failed}
use Rattle.match_text.proofs.groups.groups.Goals as goal

pub returns-in-Matched : goal.returns-in-Matched
returns-in-Matched g c places led =
    let d = g.T.Strand.bases c.args.dna.now in
    groups_matched d c.args.from c.args.items.now c.in-Matched.stop c.in-Matched.groups places
    (subst (Finds d c.args.from c.args.items.now) c.in-Matched.is c.in_ok-groups.ensures.finds) led

pub returns-in-NoMatch : goal.returns-in-NoMatch
returns-in-NoMatch g c places led =
    let d = g.T.Strand.bases c.args.dna.now in
    subst (AreMovedGroups c.args.from c.args.items.now places) (sym c.new.ensures)
    (groups_failed d c.args.from c.args.items.now places (subst (Finds d c.args.from c.args.items.now) c.in-NoMatch.is c.in_ok-groups.ensures.finds) led)
