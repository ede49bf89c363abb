use Rattle.std.proofs.Common.{◌≡◌, Some, length, get_or, arith, ap, sym, subst, ◌∙◌}
use Rattle.std.specs.Prelude.{slice_get}
use Rattle.std.proofs.lemmas.Option.{MatchOption-at_some, MatchOption-at_none, slice_get-get_or}
use Rattle.dna_items.specs.declared.items.PatItem.TheVariants.{GroupStart}
use Rattle.matcher.specs.Match.{Meets}
use Rattle.matcher.proofs.Places.{meets_rise}
use Rattle.match_text.proofs.PlaceLemmas.{Going, going_ends, going_more, going_stuck}
use Rattle.match_text.proofs.places.places.Goals as goal

pub returns-in_default : goal.returns-in_default
returns-in_default g c =
    let d = g.T.Strand.bases c.args.dna.now in
    going_stuck d c.args.from c.args.items.now c.items.places.items c.items.at c.items.invariant
    (λ item there.
    let same : c.len-in-items.result ≡ length c.items.places.items = omega (arith, c.len-in-items.ensures) in
    MatchOption-at_none _ _ c.in_default.is (c.in_ok-place.ensures item (ap (slice_get c.args.items.now) same ∙ there)))

pub overflow_sub-place : goal.overflow_sub-place
overflow_sub-place g c =
    let d = g.T.Strand.bases c.args.dna.now in
    let item = get_or c.args.items.now c.len-in-items.result GroupStart in
    let there : slice_get c.args.items.now c.len-in-items.result ≡ Some item = slice_get-get_or c.args.items.now c.len-in-items.result GroupStart (omega (arith, c.len-in-items.ensures, c.len.ensures, c.items-test.true)) in
    let meets : Meets d item c.items.at c.in-Some.place = MatchOption-at_some _ _ c.in-Some.place c.in-Some.is (c.in_ok-place.ensures item there) in
    omega (arith, (meets_rise d item c.items.at c.in-Some.place meets c.items.invariant.high).0, c.items.invariant.here)

pub items-preserved : goal.items-preserved
items-preserved g c =
    let d = g.T.Strand.bases c.args.dna.now in
    let item = get_or c.args.items.now (length c.items.places.items) GroupStart in
    let there : slice_get c.args.items.now (length c.items.places.items) ≡ Some item = slice_get-get_or c.args.items.now (length c.items.places.items) GroupStart (omega (arith, c.len.ensures, c.items-test.true)) in
    let same : c.len-in-items.result ≡ length c.items.places.items = omega (arith, c.len-in-items.ensures) in
    let meets : Meets d item c.items.at c.in-Some.place = MatchOption-at_some _ _ c.in-Some.place c.in-Some.is (c.in_ok-place.ensures item (ap (slice_get c.args.items.now) same ∙ there)) in
    subst (λ ps. Going d c.args.from c.args.items.now ps c.in-Some.place) (sym c.in_ok-push.ensures.items)
    (going_more d c.args.from c.args.items.now c.items.places.items c.items.at item c.in-Some.place c.items.invariant there meets)

pub returns : goal.returns
returns g c =
    going_ends (g.T.Strand.bases c.args.dna.now) c.args.from c.args.items.now c.items.places.items c.items.at c.items.invariant
    (omega (arith, c.len.ensures, c.items-test.false))
