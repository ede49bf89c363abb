use Rattle.std.proofs.Common.{◌≡◌, ◌<◌, [], length, get_or, arith, ap, subst}
use Rattle.std.proofs.lemmas.List.{get_or_read}
use Rattle.rope_search.specs.Automaton.{column, IsNext}
use Rattle.rope_search.proofs.find.KmpTable.next.Goals as goal

pub returns : goal.returns
returns c =
    let table = c.self.inside in
    let within : c.args.found < length table.rows.items = omega (arith, c.self.invariant.len, ap length c.self.view_is) in
    let row : c.index.result.now ≡ get_or table.rows.items c.args.found [] = get_or_read table.rows.items c.args.found c.index.result.now within c.index.ensures [] in
    let next : IsNext table.needle.items c.args.found c.args.base (get_or (get_or table.rows.items c.args.found []) (column c.args.base) 0) = c.self.invariant.rows c.args.found within c.args.base in
    rw (row, c.column_of.ensures.column) (subst (λ s. IsNext s c.args.found c.args.base (get_or (get_or table.rows.items c.args.found []) (column c.args.base) 0)) c.self.view_is next)
