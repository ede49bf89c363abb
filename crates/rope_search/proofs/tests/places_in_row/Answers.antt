use Rattle.std.proofs.Common.{◌≡◌, Some, None, length, ap, arith, ◌∙◌}
use Rattle.rope_search.specs.Worked.{row_of}
use Rattle.rope_search.proofs.WorkedRow.{length-row_of, found_in_row, not_found_in_row, none_in_row}
use Rattle.rope_search.proofs.tests.places_in_row.Goals as goal

pub build-requires : goal.build-requires
build-requires g c = omega (arith, ap length c.requires, length-row_of 512 511)

pub find_in-requires-2 : goal.find_in-requires-2
find_in-requires-2 g c = omega (arith, ap length c.in_ok-rope.ensures.bases, ap length c.requires, length-row_of 512 511)

pub find_in-requires-3 : goal.find_in-requires-3
find_in-requires-3 g c = omega (arith, ap length c.in_ok-rope.ensures.bases, ap length c.requires, length-row_of 512 511)

pub returns : goal.returns
returns g c =
    let d = c.in_ok-rope.rope.bases in
    let row : d ≡ row_of 512 511 = c.in_ok-rope.ensures.bases ∙ c.requires in
    let first : c.find_in.result ≡ Some 511 = found_in_row _ d c.find_in.result c.in_ok-table.ensures row c.find_in.ensures in
    let later : c.find_in-2.result ≡ None = not_found_in_row _ d c.find_in-2.result c.in_ok-table.ensures row c.find_in-2.ensures in
    let none : c.find_in-3.result ≡ Some 5 = none_in_row _ d c.find_in-3.result c.in_ok-none.ensures row c.find_in-3.ensures in
    cc
