-- What is assembled from lines, or which of them is the first refused.
use Rattle.std.specs.Prelude.{◌≡◌, ℕ, ◌+◌, List, [], ◌∷◌, ◌++◌, Result, Ok, Err, flat_map, length}
use Rattle.fuun_base.specs.declared.letters.Base.{Base}
use Rattle.fuun_base.specs.Lines.{lines}
use Rattle.dna_items.specs.declared.items.PatItem.{PatItem}
use Rattle.dna_items.specs.declared.items.TplItem.{TplItem}
use Rattle.dna_reader.specs.Codes.{pair_code, IsReadable}
use Rattle.dna_reader.specs.Pairs.{PairStands}
use Rattle.assembler.specs.declared.assembling.AsmError.{AsmError}
use Rattle.assembler.specs.declared.assembling.AsmError.TheVariants.{BadText, Unreadable, NoMemory}
use Rattle.assembler.specs.Pairs.{IsPair, IsNoPair, IsUnreadable}

-- a pattern and its template
abbrev pub Pair : Type 0
Pair = List PatItem × List TplItem

-- each line is the text of a pair that can be read, in turn
abbrev pub AreTexts : List (List ℕ) → List Pair → Type 0
AreTexts [] [] = Unit {0}
AreTexts [] (pair ∷ pairs) = ⊥
AreTexts (line ∷ lines) [] = ⊥
AreTexts (line ∷ lines) (pair ∷ pairs) = IsPair line pair.0 pair.1 × IsReadable pair.0 × AreTexts lines pairs

-- the codes of pairs, joined
abbrev pub pairs_code : List Pair → List Base
pairs_code pairs = flat_map (λ pair. pair_code pair.0 pair.1) pairs

-- a DNA is read as pairs, one behind the other and without RNA, and leaves the rest
abbrev pub ReadsPairs : List Base → List Pair → List Base → Type 0
ReadsPairs d [] rest = d ≡ rest
ReadsPairs d (pair ∷ pairs) rest = (middle : List Base) × PairStands d pair.0 pair.1 [] middle × ReadsPairs middle pairs rest

-- the lines before the one of this number, counted from 1, are taken, and it is refused for this reason
pub record IsRefusedAt (Why : List ℕ → Type 0) (all : List (List ℕ)) (number : ℕ) : Type 0 where
  pub before : List (List ℕ)
  pub line : List ℕ
  pub behind : List (List ℕ)
  pub whole : all ≡ before ++ line ∷ behind
  pub number_is : number ≡ length before + 1
  pub pairs : List Pair
  pub taken : AreTexts before pairs
  pub refused : Why line

-- lines are assembled: the code of their pairs, or the first line that is no pair's text or has no DNA
abbrev pub IsAnswer : List (List ℕ) → Result (List Base) AsmError → Type 0
IsAnswer all (Ok code) = (pairs : List Pair) × AreTexts all pairs × (code ≡ pairs_code pairs)
IsAnswer all (Err (BadText number)) = IsRefusedAt IsNoPair all number
IsAnswer all (Err (Unreadable number)) = IsRefusedAt IsUnreadable all number
IsAnswer all (Err NoMemory) = ⊥

-- a text is assembled line by line
abbrev pub IsAssembled : List ℕ → Result (List Base) AsmError → Type 0
IsAssembled text answer = IsAnswer (lines text) answer
