-- When a file of light rows has room for one row more.
use Rattle.std.specs.Prelude.{◌≡◌, ◌<◌, ◌≤◌, ◌^◌, true, length}
use Rattle.std.specs.List.{list_all}
use Rattle.patch_text.specs.Contents.{Contents}
use Rattle.workload.specs.Laws.{is_light}

-- so few rows, each light, that one more of that kind keeps the bounds of a file
pub record HasRoom (contents : Contents) : Type 0 where
  pub stated : contents.stated ≤ 2 ^ 40
  pub rows : length contents.rows < 2 ^ 16
  pub light : list_all (is_light (2 ^ 25)) contents.rows ≡ true
