use Rattle.std.proofs.Common.{lit<, arith, refl, sym}
use Rattle.flood.proofs.Counts.{differ_from_test, same_from_test}
use Rattle.flood.proofs.Parts.{fill_all, fill_none}
use Rattle.flood.proofs.Rows.{room_first}
use Rattle.flood.proofs.spread.fill.Goals as goal

pub put-requires : goal.put-requires
put-requires g c =
    let differ = differ_from_test _ _ _ c.ne.ensures c.if-ne.true in
    (lit< tt, (lit< tt, (c.requires, (differ, (sym c.get-from.ensures.value, room_first _ _ _ _ c.get-from.ensures.square c.clear.ensures)))))

pub spread-requires : goal.spread-requires
spread-requires g c =
    let differ = differ_from_test _ _ _ c.ne.ensures c.if-ne.true in
    let room = room_first _ c.get-from.result _ _ c.get-from.ensures.square c.clear.ensures in
    (lit< tt, (lit< tt, (differ, (omega (arith, c.put.ensures.left, room), c.put.ensures.square))))

pub returns-then-ne-clause-fill : goal.returns-then-ne-clause-fill
returns-then-ne-clause-fill g c =
    let differ = differ_from_test _ _ _ c.ne.ensures c.if-ne.true in
    fill_all _ _ _ _ c.args.spot _ _ c.put.result _ _ c.requires c.get-from.ensures.value differ c.get-from.ensures.square c.spread.ensures.square c.put.ensures.run c.put.ensures.set c.clear.ensures c.put.ensures.listed c.spread.ensures.goes_on

pub returns-else-ne-clause-fill : goal.returns-else-ne-clause-fill
returns-else-ne-clause-fill g c =
    let same = same_from_test _ _ _ c.ne.ensures c.if-ne.false in
    fill_none _ _ _ c.args.spot _ _ c.get-from.ensures.square c.get-from.ensures.value same refl
