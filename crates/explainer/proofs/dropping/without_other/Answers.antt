use Rattle.std.proofs.Common.{Vec, Global, ℕ, refl, arith}
use Rattle.explainer.specs.Open.{GoesOnAlong}
use Rattle.explainer.proofs.OpenLemmas.{goes_near, goes_both, ok_map}
use Rattle.explainer.proofs.dropping.without_other.Goals as goal

pub returns-in_default : goal.returns-in_default
returns-in_default c =
    goes_near c.args.needle.now c.args.seen.now _ c.args.begun.items c.as_slice.result.now c.in_ok-near.near.items c.args.place c.min-most.result (omega (arith, c.min-most.ensures)) refl c.as_slice.ensures.value c.in_ok-near.ensures

pub returns-then-len-span : goal.returns-then-len-span
returns-then-len-span c =
    let s = c.args.needle.now in
    let x = c.args.seen.now in
    let begun = c.args.begun.items in
    let place = c.args.place in
    let near : GoesOnAlong s x begun place c.in_ok-near.near.items place =
    goes_near s x _ begun c.as_slice.result.now c.in_ok-near.near.items place c.min-most.result (omega (arith, c.min-most.ensures)) refl c.as_slice.ensures.value c.in_ok-near.ensures in
    let mid = c.as_slice-then-len-span.result.now in
    ok_map c.compared-then-len-span.result (λ (kept : Vec ℕ Global). GoesOnAlong s x mid place kept.items place)
    (λ (kept : Vec ℕ Global). GoesOnAlong s x begun place kept.items place) c.compared-then-len-span.ensures
    (λ kept goes. goes_both s x begun c.in_ok-near.near.items mid kept.items place near c.as_slice-then-len-span.ensures.value goes)

pub returns : goal.returns
returns c =
    let s = c.args.needle.now in
    let x = c.args.seen.now in
    let begun = c.args.begun.items in
    let place = c.args.place in
    let near : GoesOnAlong s x begun place c.in_ok-near.near.items place =
    goes_near s x _ begun c.as_slice.result.now c.in_ok-near.near.items place c.min-most.result (omega (arith, c.min-most.ensures)) refl c.as_slice.ensures.value c.in_ok-near.ensures in
    let mid = c.as_slice-else-len-span.result.now in
    ok_map c.tabled.result (λ (kept : Vec ℕ Global). GoesOnAlong s x mid place kept.items place)
    (λ (kept : Vec ℕ Global). GoesOnAlong s x begun place kept.items place) c.tabled.ensures
    (λ kept goes. goes_both s x begun c.in_ok-near.near.items mid kept.items place near c.as_slice-else-len-span.ensures.value goes)
