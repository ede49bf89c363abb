-- Parts of rows.
use Rattle.std.specs.Prelude.{ℕ, ◌*◌, ◌<◌, ◌≤◌, vec_capacity}
use Rattle.std.specs.List.{All}
use Rattle.std.specs.Global.{Vec}
use Rattle.flood.specs.declared.span.Span.{Span}

-- a span of at least one spot of a bitmap
pub record IsSpanOf (side : ℕ) (span : Span) : Type 0 where
  pub row : span.y < side
  pub nonempty : span.start < span.stop
  pub inside : span.stop ≤ side

-- a list of spans of a bitmap with room for as many as there are pixels
pub record HasRoom (side : ℕ) (spans : Vec Span) : Type 0 where
  pub nonempty : 1 ≤ side
  pub small : side ≤ 1024
  pub room : side * side ≤ vec_capacity spans
  pub are_spans : All (IsSpanOf side) spans.items
