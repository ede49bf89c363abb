-- What holds of assembled texts.
use Rattle.std.specs.Prelude.{◌≡◌, ℕ, zero, suc, ◌+◌, ◌-◌, Some, slice_get, List, [], ◌∷◌, ◌++◌, Result, Ok, Err, codes, flat_map, length}
use Rattle.std.specs.List.{AllByRecursion}
use Rattle.fuun_base.specs.declared.letters.Base.{Base}
use Rattle.dna_items.specs.declared.items.PatItem.{PatItem}
use Rattle.dna_items.specs.declared.items.TplItem.{TplItem}
use Rattle.dna_reader.specs.Codes.{pair_code}
use Rattle.dna_reader.specs.Reading.{Read}
use Rattle.dna_reader.specs.Tables.{ReadsPattern}
use Rattle.listing.specs.Lists.{IsListing, last_line}
use Rattle.listing.specs.Texts.{number_text, pair_text}
use Rattle.assembler.specs.declared.assembling.AsmError.{AsmError}
use Rattle.assembler.specs.declared.assembling.AsmError.TheVariants.{Unreadable}
use Rattle.assembler.specs.Answers.{Pair, AreTexts, ReadsPairs, IsAnswer, IsAssembled, pairs_code}
use Rattle.assembler.specs.Pairs.{IsPair, HasSmallSkip, HasSmallNumbers}

-- lines have an answer
abbrev pub HasAnswer : Type 0
HasAnswer = (all : List (List ℕ)) → (answer : Result (List Base) AsmError) × IsAnswer all answer

-- and only one
abbrev pub AnswerIsOne : Type 0
AnswerIsOne = (all : List (List ℕ)) (a b : Result (List Base) AsmError) → IsAnswer all a → IsAnswer all b → a ≡ b

-- a line is the text of at most one pair whose numbers are small
abbrev pub TextIsOfOne : Type 0
TextIsOfOne = (line : List ℕ) (a b : Pair) → IsPair line a.0 a.1 → IsPair line b.0 b.1 → a ≡ b

-- the code of lines is read as their pairs, in turn and without RNA, and nothing is left
abbrev pub AssembledIsRead : Type 0
AssembledIsRead = (all : List (List ℕ)) (code : List Base) → IsAnswer all (Ok code) → (pairs : List Pair) × AreTexts all pairs × ReadsPairs code pairs []

-- the line of this number, counted from 1, is the text of a pair, and no DNA is read as its pattern without RNA
pub record IsReadOfNone (all : List (List ℕ)) (number : ℕ) : Type 0 where
  pub line : List ℕ
  pub there : slice_get all (number - 1) ≡ Some line
  pub pattern : List PatItem
  pub template : List TplItem
  pub pair : IsPair line pattern template
  pub none : (d rest : List Base) → ReadsPattern d (Read pattern [] rest) → ⊥

-- so it is with a line that was refused for its pattern
abbrev pub RefusedIsNotRead : Type 0
RefusedIsNotRead = (all : List (List ℕ)) (number : ℕ) → IsAnswer all (Err (Unreadable number)) → IsReadOfNone all number

-- what a listing of up to so many pairs shows of lines that were assembled: each behind the place of its code, and then the end
abbrev pub shown_from : ℕ → ℕ → List (List ℕ) → List Pair → List ℕ
shown_from zero place lines pairs = []
shown_from (suc count) place [] pairs = last_line place
shown_from (suc count) place (line ∷ lines) [] = []
shown_from (suc count) place (line ∷ lines) (pair ∷ pairs) =
    (number_text place ++ (codes " " ++ (line ++ codes "\n"))) ++ shown_from count (place + length (pair_code pair.0 pair.1)) lines pairs

-- so a listing of assembled DNA shows its lines again
abbrev pub ListingShowsLines : Type 0
ListingShowsLines = (all : List (List ℕ)) (pairs : List Pair) (count : ℕ) → AreTexts all pairs → IsListing (pairs_code pairs) count (shown_from count 0 all pairs)

-- the numbers of a pair are small
abbrev pub IsSmallPair : Pair → Type 0
IsSmallPair pair = AllByRecursion HasSmallSkip pair.0 × AllByRecursion HasSmallNumbers pair.1

-- pairs written as lines
abbrev pub pairs_text : List Pair → List ℕ
pairs_text pairs = flat_map (λ pair. pair_text pair.0 pair.1 ++ codes "\n") pairs

-- and the text of pairs that a DNA was read as is assembled to a DNA that is read as the same pairs
abbrev pub ListedIsAssembled : Type 0
ListedIsAssembled =
    (d : List Base) (pairs : List Pair) (rest : List Base) → ReadsPairs d pairs rest → AllByRecursion IsSmallPair pairs
    → IsAssembled (pairs_text pairs) (Ok (pairs_code pairs)) × ReadsPairs (pairs_code pairs) pairs []
