use Rattle.std.proofs.Common.{◌≡◌, ◌+◌, ◌-◌, ◌<◌, ◌≤◌, length, get_or, arith, sym, subst}
use Rattle.strand.proofs.Shifting.{IsSought, first_of_sought, sought_shifted}
use Rattle.strand.proofs.search.first_place.Goals as goal

pub returns-then-found-needle : goal.returns-then-found-needle
returns-then-found-needle c =
    first_of_sought c.args.needle.now c.args.hay.now c.args.lo c.loop-place.place c.loop-place.found c.loop-place.invariant (omega arith) (omega (arith, c.loop-place.invariant.within))

pub loop-place-preserved : goal.loop-place-preserved
loop-place-preserved c =
    let needle = c.args.needle.now in
    let hay = c.args.hay.now in
    let place = c.loop-place.place in
    let found = c.loop-place.found in
    let shift = get_or c.args.shifts.now found 0 in
    let is = c.loop-place.invariant in
    let short : found < length needle = omega (arith, is.part) in
    let room : place + length needle ≤ length hay = omega (arith, is.within) in
    let left : found - shift ≡ c.saturating_sub-found.result = sym c.saturating_sub-found.ensures in
    subst (IsSought needle hay c.args.lo (place + shift)) left
    (sought_shifted needle hay c.args.lo place found shift is short room (c.requires.right found (omega arith)) (λ same. grind arith))
