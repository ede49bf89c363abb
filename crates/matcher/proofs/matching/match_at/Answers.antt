use Rattle.std.proofs.Common.{◌≡◌, ◌<◌, ◌≤◌, sym, subst, arith, rules, length, get_or, [], All}
use Rattle.std.proofs.lemmas.Option.{MatchOption-at_some, MatchOption-at_none}
use Rattle.matcher.specs.Found.{MatchesAt, LiesWithin}
use Rattle.matcher.specs.Step.{LeadNowhere, LeadsOver}
use Rattle.matcher.proofs.Reached.{Reached, reached_begins, reached_more, reached_within, reached_open, reached_nowhere, reached_ends, reached_inside, rest_is}
use Rattle.matcher.proofs.matching.match_at.Goals as goal

pub loop-next-init : goal.loop-next-init
loop-next-init g c =
    let d = g.S.Strand.bases c.args.s.now in
    subst (λ held. Reached d c.args.items.now c.args.place 0 c.args.place held c.new-marks.result.ended.items) (sym c.new-marks.ensures.starts)
    (subst (λ ended. Reached d c.args.items.now c.args.place 0 c.args.place [] ended) (sym c.new-marks.ensures.ended)
    (reached_begins d c.args.items.now c.args.place c.requires.place))

pub pass-requires-clause-within : goal.pass-requires-clause-within
pass-requires-clause-within g c = (reached_within _ _ _ _ _ _ _ c.loop-next.invariant).1

pub returns-in_default-clause-finds : goal.returns-in_default-clause-finds
returns-in_default-clause-finds g c =
    let d = g.S.Strand.bases c.args.s.now in
    let lacks = MatchOption-at_none _ _ c.in_default.is c.in_ok-passed.ensures in
    reached_nowhere d c.args.items.now c.args.place c.loop-next.next c.loop-next.at c.loop-next.marks.starts.items c.loop-next.marks.ended.items c.loop-next.invariant
    (subst (λ xs. LeadNowhere d xs c.loop-next.at) (rest_is _ _ c.loop-next.next c.as_slice-items.ensures) lacks)

pub mark-requires : goal.mark-requires
mark-requires g c is =
    let inside = subst (λ xs. c.loop-next.next < length xs) c.as_slice-items.ensures c.loop-next-test.true in
    let first = subst (λ xs. get_or xs 0 c.index-rest-0.result ≡ c.index-rest-0.result) (rest_is _ _ c.loop-next.next c.as_slice-items.ensures) (sym c.index-rest-0.is) in
    reached_open (g.S.Strand.bases c.args.s.now) c.args.items.now c.index-rest-0.result c.args.place c.loop-next.next c.loop-next.at c.loop-next.marks.starts.items c.loop-next.marks.ended.items
    c.loop-next.invariant c.requires.balanced inside first is

pub loop-next-preserved : goal.loop-next-preserved
loop-next-preserved g c =
    let d = g.S.Strand.bases c.args.s.now in
    let inside = subst (λ xs. c.loop-next.next < length xs) c.as_slice-items.ensures c.loop-next-test.true in
    let first = subst (λ xs. get_or xs 0 c.index-rest-0.result ≡ c.index-rest-0.result) (rest_is _ _ c.loop-next.next c.as_slice-items.ensures) (sym c.index-rest-0.is) in
    let over = MatchOption-at_some _ _ c.in-Some.passed c.in-Some.is c.in_ok-passed.ensures in
    reached_more d c.args.items.now c.index-rest-0.result c.args.place c.loop-next.next c.loop-next.at c.in-Some.passed.count c.in-Some.passed.place
    c.loop-next.marks.starts.items c.mark.new.self.starts.items c.loop-next.marks.ended.items c.mark.new.self.ended.items
    c.loop-next.invariant inside first
    (subst (λ xs. LeadsOver d xs c.loop-next.at c.in-Some.passed.count c.in-Some.passed.place) (rest_is _ _ c.loop-next.next c.as_slice-items.ensures) over)
    c.in_ok-mark.ensures

pub returns-clause-finds : goal.returns-clause-finds
returns-clause-finds g c =
    let d = g.S.Strand.bases c.args.s.now in
    let past : length c.args.items.now ≤ c.loop-next.next = subst (λ xs. length xs ≤ c.loop-next.next) c.as_slice-items.ensures c.loop-next-test.false in
    let end : c.loop-next.next ≡ length c.args.items.now = omega (arith, c.loop-next.invariant.walked.most) in
    let same : c.from_vec.result ≡ c.loop-next.marks.ended.items = search rules in
    subst (MatchesAt d c.args.place c.args.items.now c.loop-next.at) (sym same)
    (reached_ends d c.args.items.now c.args.place c.loop-next.at c.loop-next.marks.starts.items c.loop-next.marks.ended.items
    (subst (λ k. Reached d c.args.items.now c.args.place k c.loop-next.at c.loop-next.marks.starts.items c.loop-next.marks.ended.items) end c.loop-next.invariant))

pub returns-clause-within : goal.returns-clause-within
returns-clause-within g c =
    let most = length (g.S.Strand.bases c.args.s.now) in
    let same : c.from_vec.result ≡ c.loop-next.marks.ended.items = search rules in
    ((reached_within _ _ _ _ _ _ _ c.loop-next.invariant).1, subst (All (LiesWithin most)) (sym same) (reached_inside _ _ _ _ _ _ _ c.loop-next.invariant))
