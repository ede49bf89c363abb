use Rattle.std.proofs.Common.{◌≡◌, ◌^◌, ◌<◌, ◌≤◌, length, vec_len}
use Rattle.std.specs.Vec.{vec_capacity}
use Rattle.rope_search.specs.Automaton.{IsBorder, AreRows}
use Rattle.rope_search.proofs.rows.rows_of.Given as goal

abbrev pub invariant-loop-found : goal.invariant-loop-found
invariant-loop-found l = record {
  len : vec_len l.rows ≡ l.found;
  room : length l.needle ≤ vec_capacity l.rows;
  small : length l.needle < 2 ^ 32;
  rows : AreRows l.needle l.rows.items;
  border : IsBorder l.needle l.found l.back;
}
