-- The codes of lines, in a line of `own` bases with lines of the lengths `behind` behind it, the nearest first.
use Rattle.std.specs.Prelude.{ℕ, ◌+◌, ◌*◌, ◌^◌, ◌==◌, ◌||◌, Bool, true, List, [], ◌∷◌, length, map, nat_lt, replicate}
use Rattle.std.specs.List.{list_all}
use Rattle.fuun_base.specs.declared.letters.Base.{Base}
use Rattle.fuun_base.specs.declared.letters.Base.TheVariants.{I}
use Rattle.dna_items.specs.declared.items.PatItem.{PatItem}
use Rattle.dna_items.specs.declared.items.PatItem.TheVariants.{Skip as PatSkip}
use Rattle.dna_reader.specs.Codes.{pair_code, pattern_item_code}
use Rattle.source_items.specs.declared.lines.CountedSkip.{CountedSkip}
use Rattle.source_items.specs.declared.lines.Factor.{Factor}
use Rattle.source_items.specs.declared.lines.Line.{Line}
use Rattle.source_items.specs.declared.lines.Line.TheVariants.{Plain, Pair, Long}
use Rattle.source_items.specs.declared.lines.SourceItem.{SourceItem}
use Rattle.source_items.specs.declared.lines.SourceItem.TheVariants.{Fixed, Skip}
use Rattle.source_items.specs.Values.{sum_value}

-- an item with its sum's value for a number
abbrev pub item_of : ℕ → List ℕ → SourceItem → PatItem
item_of own behind (Fixed item) = item
item_of own behind (Skip sum) = PatSkip (sum_value own behind sum)

-- a pattern with its sums' values for numbers
abbrev pub pattern_of : ℕ → List ℕ → List SourceItem → List PatItem
pattern_of own behind items = map (item_of own behind) items

-- how many bases the codes of counted skips have
abbrev pub skips_len : ℕ → List ℕ → List CountedSkip → ℕ
skips_len own behind [] = 0
skips_len own behind (skip ∷ skips) = skip.count * length (pattern_item_code (PatSkip (sum_value own behind skip.sum))) + skips_len own behind skips

-- how many bases the code of a line has
abbrev pub line_len : ℕ → List ℕ → Line → ℕ
line_len own behind (Plain bases) = length bases
line_len own behind (Pair pattern template) = length (pair_code (pattern_of own behind pattern) template)
line_len own behind (Long skips len) = len + skips_len own behind skips

-- the code of a line; that of a long line is only known by its length, and any bases stand for it
abbrev pub line_code : ℕ → List ℕ → Line → List Base
line_code own behind (Plain bases) = bases
line_code own behind (Pair pattern template) = pair_code (pattern_of own behind pattern) template
line_code own behind (Long skips len) = replicate (line_len own behind (Long skips len)) I

-- a sum's value is below 2^63
abbrev pub is_small : ℕ → List ℕ → List (List Factor) → Bool
is_small own behind sum = nat_lt (sum_value own behind sum) (2 ^ 63)

abbrev pub is_small_item : ℕ → List ℕ → SourceItem → Bool
is_small_item own behind (Fixed item) = true
is_small_item own behind (Skip sum) = is_small own behind sum

-- a skip that stands nowhere has no value
abbrev pub is_small_skip : ℕ → List ℕ → CountedSkip → Bool
is_small_skip own behind skip = skip.count == 0 || is_small own behind skip.sum

-- the values of all sums of a line are below 2^63
abbrev pub are_small : ℕ → List ℕ → Line → Bool
are_small own behind (Plain bases) = true
are_small own behind (Pair pattern template) = list_all (is_small_item own behind) pattern
are_small own behind (Long skips len) = list_all (is_small_skip own behind) skips
