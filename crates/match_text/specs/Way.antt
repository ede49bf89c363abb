-- The lines of a match: one for each part of the pattern, up to and with the first that fails.
use Rattle.std.specs.Prelude.{ℕ, ◌+◌, Bool, true, false, if◌then◌else◌, List, [], ◌∷◌, ◌++◌, codes, decimal, drop, length, nat_lt, take}
use Rattle.dna_items.specs.declared.items.PatItem.{PatItem}
use Rattle.dna_items.specs.declared.items.PatItem.TheVariants.{Base as Literal, Skip, Search, GroupStart, GroupStop}
use Rattle.listing.specs.Texts.{pattern_text}
use Rattle.matcher.specs.Match.{last_place}

-- an item is a base
abbrev pub is_base : PatItem → Bool
is_base (Literal b) = true
is_base (Skip n) = false
is_base (Search s) = false
is_base GroupStart = false
is_base GroupStop = false

-- a part begins with a base: it is a stretch of bases
abbrev pub is_stretch : List PatItem → Bool
is_stretch [] = false
is_stretch (item ∷ items) = is_base item

-- an item before the parts of those behind it: a base joins a stretch
abbrev pub before_parts : PatItem → List (List PatItem) → List (List PatItem)
before_parts item [] = (item ∷ []) ∷ []
before_parts item (part ∷ parts) = if is_base item then (if is_stretch part then (item ∷ part) ∷ parts else (item ∷ []) ∷ part ∷ parts) else (item ∷ []) ∷ part ∷ parts

-- the parts of a pattern: a longest stretch of bases is one, and each other item is one
abbrev pub parts : List PatItem → List (List PatItem)
parts [] = []
parts (item ∷ items) = before_parts item (parts items)

-- how far a part goes from a place, by the places of its items: where they are too few it fails, a stretch at the last of them
abbrev pub going : List PatItem → ℕ → List ℕ → List ℕ
going part at places =
    if nat_lt (length places) (length part)
    then codes " fails" ++ (if is_stretch part then codes " at " ++ decimal (last_place (at ∷ places)) else [])
    else codes " -> " ++ decimal (last_place (at ∷ take (length part) places))

-- the line of a part: its text, the place before it, and how far it goes
abbrev pub part_line : List PatItem → ℕ → List ℕ → List ℕ
part_line part at places = pattern_text part ++ (codes " " ++ (decimal at ++ (going part at places ++ codes "\n")))

-- the lines of parts from a place on, with the further places, one an item: fewer where an item fails
abbrev pub way : List (List PatItem) → ℕ → List ℕ → List ℕ
way [] at places = codes "matches\n"
way (part ∷ parts) at places =
    part_line part at places
    ++ (if nat_lt (length places) (length part) then codes "no match\n" else way parts (last_place (at ∷ take (length part) places)) (drop (length part) places))

-- the line of a group: its number, and the places where it starts and stops
abbrev pub group_line : ℕ → ℕ × ℕ → List ℕ
group_line n range = decimal n ++ (codes " " ++ (decimal range.0 ++ (codes " " ++ (decimal range.1 ++ codes "\n"))))

-- the lines of groups, of which the first has this number
abbrev pub group_lines : ℕ → List (ℕ × ℕ) → List ℕ
group_lines n [] = []
group_lines n (range ∷ ranges) = group_line n range ++ group_lines (n + 1) ranges
