-- What a table of a needle keeps.
use Rattle.std.specs.Prelude.{◌≡◌, ◌^◌, ◌<◌, length}
use Rattle.rope_search.specs.Automaton.{AreRows}
use Rattle.rope_search.specs.declared.find.KmpTable.TheInside.{Inside}

-- a row for each number of the needle's bases but for all of them
pub record IsTable (table : Inside) : Type 0 where
  pub len : length table.rows.items ≡ length table.needle.items
  pub small : length table.needle.items < 2 ^ 32
  pub rows : AreRows table.needle.items table.rows.items
