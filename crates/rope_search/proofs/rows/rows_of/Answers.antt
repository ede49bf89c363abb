use Rattle.std.proofs.Common.{◌≡◌, ◌+◌, length, get_or, arith, subst, sym}
use Rattle.std.proofs.Math.ListN.{set}
use Rattle.fuun_base.specs.declared.letters.Base.TheVariants.{I}
use Rattle.rope_search.specs.Automaton.{column, IsRow, IsBorder, AreRows}
use Rattle.rope_search.proofs.Borders.{row_next, rows_more}
use Rattle.rope_search.proofs.rows.rows_of.Goals as goal

pub loop-found-preserved : goal.loop-found-preserved
loop-found-preserved c =
    let needle = c.args.needle.now in
    let rows = c.loop-found.rows.items in
    let found = c.loop-found.found in
    let row = c.row_behind-row.result in
    let four : length row ≡ 4 = omega arith in
    let there : c.column_of-at.result ≡ column (get_or needle found I) = c.column_of-at.ensures.column in
    let count : length c.as_slice.result.now ≡ found = omega arith in
    let next : IsRow needle found (set row (column (get_or needle found I)) (found + 1)) = row_next needle found row (omega (arith, c.column_of-at.ensures.most)) (rw count at c.row_behind-row.ensures.others) in
    let border : IsBorder needle (found + 1) (get_or row (column (get_or needle found I)) 0) = rw count at c.row_behind-row.ensures.border in
    let size : length rows ≡ found = omega arith in
    record {
      len = omega arith;
      room = omega arith;
      small = omega arith;
      rows = subst (AreRows needle) (sym c.push_reserved.ensures.items) (rows_more needle rows _ c.loop-found.invariant.rows (subst (λ n. IsRow needle n (set row c.column_of-at.result (found + 1))) (sym size) (subst (λ n. IsRow needle found (set row n (found + 1))) (sym there) next)));
      border = subst (λ n. IsBorder needle (found + 1) (get_or row n 0)) (sym there) border;
    }
