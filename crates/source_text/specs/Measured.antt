-- How long the codes of pieces are, in a line of `own` bases with lines of the lengths `behind` behind it: what their skips come
-- to, and what the others have.
use Rattle.std.specs.Prelude.{◌≡◌, ℕ, ◌+◌, ◌*◌, ◌^◌, Bool, List, [], ◌∷◌, length, min}
use Rattle.std.specs.List.{list_all}
use Rattle.dna_items.specs.declared.items.PatItem.TheVariants.{Skip as PatSkip}
use Rattle.dna_items.specs.Held.{held}
use Rattle.dna_reader.specs.Codes.{pattern_item_code, template_item_code}
use Rattle.source_items.specs.declared.lines.CountedSkip.{CountedSkip}
use Rattle.source_items.specs.declared.lines.SourceItem.{SourceItem}
use Rattle.source_items.specs.declared.lines.SourceItem.TheVariants.{Fixed, Skip}
use Rattle.source_items.specs.Lines.{is_small_item, is_small_skip, skips_len}
use Rattle.source_items.specs.Values.{sum_value}
use Rattle.source_text.specs.declared.measure.Measure.{Measure}
use Rattle.source_text.specs.declared.pieces.Item.{Item}
use Rattle.source_text.specs.declared.pieces.Item.TheVariants.{Skip as SumSkip}
use Rattle.source_text.specs.declared.pieces.Piece.{Piece}
use Rattle.source_text.specs.Pieces.{pattern_item, template_item}

-- of an item of a pattern that is no skip
abbrev pub fixed_len : SourceItem → ℕ
fixed_len (Fixed item) = length (pattern_item_code item)
fixed_len (Skip sum) = 0

-- of a skip
abbrev pub skip_len : ℕ → List ℕ → SourceItem → ℕ
skip_len own behind (Fixed item) = 0
skip_len own behind (Skip sum) = length (pattern_item_code (PatSkip (sum_value own behind sum)))

-- of pieces in a pattern, without their skips
abbrev pub pattern_len : List Piece → ℕ
pattern_len [] = 0
pattern_len (piece ∷ pieces) = fixed_len (pattern_item piece.item) + pattern_len pieces

-- of pieces in a template
abbrev pub template_len : List Piece → ℕ
template_len [] = 0
template_len (piece ∷ pieces) = length (template_item_code (template_item piece.item)) + template_len pieces

-- of the skips of pieces in a pattern
abbrev pub sums_len : ℕ → List ℕ → List Piece → ℕ
sums_len own behind [] = 0
sums_len own behind (piece ∷ pieces) = skip_len own behind (pattern_item piece.item) + sums_len own behind pieces

-- the values of all sums are below 2^63
abbrev pub are_small_sums : ℕ → List ℕ → List Piece → Bool
are_small_sums own behind pieces = list_all (λ piece. is_small_item own behind (pattern_item piece.item)) pieces

-- the skip that an item is, if it is one
abbrev pub skips_in : Item → List CountedSkip
skips_in (SumSkip sum) = record { count = 1; sum = sum } ∷ []
skips_in item = []

-- pieces are measured
pub record IsMeasured (measure : Measure) (pieces : List Piece) : Type 0 where
  pub pattern : measure.pattern ≡ min (pattern_len pieces) (2 ^ 63)
  pub template : measure.template ≡ min (template_len pieces) (2 ^ 63)
  pub plain : measure.plain ≡ min (length pieces) (2 ^ 63)
  pub sums : (own : ℕ) (behind : List ℕ) → held (skips_len own behind measure.skips.items) ≡ held (sums_len own behind pieces)
  pub small : (own : ℕ) (behind : List ℕ) → list_all (is_small_skip own behind) measure.skips.items ≡ are_small_sums own behind pieces

-- a skip that stands so many times as often
abbrev pub repeated_skip : ℕ → CountedSkip → CountedSkip
repeated_skip n skip = record { count = min (skip.count * n) (2 ^ 63); sum = skip.sum }
