-- Matches that were worked out by hand.
use Rattle.std.specs.Prelude.{List, [], ◌∷◌}
use Rattle.fuun_base.specs.declared.letters.Base.TheVariants.{I, C, F, P}
use Rattle.dna_items.specs.declared.items.PatItem.{PatItem}
use Rattle.dna_items.specs.declared.items.PatItem.TheVariants.{Base as Literal, Skip, Search, GroupStart, GroupStop}
use Rattle.matcher.specs.Match.{HasNoMatch}
use Rattle.matcher.specs.Found.{MatchesAt}

-- the pattern (!1(!1)P)
abbrev pub nested : List PatItem
nested = GroupStart ∷ Skip 1 ∷ GroupStart ∷ Skip 1 ∷ GroupStop ∷ Literal P ∷ GroupStop ∷ []

-- on CFPC behind IC it takes CFP; the inner group ends first
abbrev pub NestedGroups : Type 0
NestedGroups = MatchesAt (I ∷ C ∷ C ∷ F ∷ P ∷ C ∷ []) 2 nested 5 ((3, 4) ∷ (2, 5) ∷ [])

-- a second search of CF goes on behind the first
abbrev pub SearchGoesOn : Type 0
SearchGoesOn = MatchesAt (P ∷ C ∷ F ∷ C ∷ F ∷ []) 0 (Search (C ∷ F ∷ []) ∷ Search (C ∷ F ∷ []) ∷ []) 5 []

-- FF stands nowhere there
abbrev pub SearchFindsNone : Type 0
SearchFindsNone = HasNoMatch (P ∷ C ∷ F ∷ C ∷ F ∷ []) (Search (F ∷ F ∷ []) ∷ [])

-- a skip may go to the end of the DNA
abbrev pub SkipToTheEnd : Type 0
SkipToTheEnd = MatchesAt (C ∷ F ∷ []) 0 (Skip 2 ∷ []) 2 []

-- and no further
abbrev pub SkipPastTheEnd : Type 0
SkipPastTheEnd = HasNoMatch (C ∷ F ∷ []) (Skip 3 ∷ [])
