-- Lines and their answers. What an answerer says is a relation: its state, a line, its state after, and the text of its answer.
use Rattle.std.specs.Prelude.{◌≡◌, ℕ, List, [], ◌∷◌, ◌++◌, Option}
use Rattle.fuun_io.specs.Written.{appended}

-- a line was answered, and the whole answer was put
pub record IsAnswered {A : Type 0} (says : A → List ℕ → A → List ℕ → Type 0) (old : A) (line : List ℕ) (new : A) (told now : Option (List ℕ)) : Type 0 where
  pub text : List ℕ
  pub said : says old line new text
  pub put : now ≡ appended told text

-- the bytes are none, or a front of an answer to the line
abbrev pub IsBegun : {A : Type 0} → (A → List ℕ → A → List ℕ → Type 0) → A → List ℕ → List ℕ → Type 0
IsBegun says old line [] = Unit {0}
IsBegun {A} says old line (byte ∷ front) = (new : A) × ((rest : List ℕ) × says old line new ((byte ∷ front) ++ rest))

-- an answer to the line broke off: a front of it was put, or nothing
pub record IsBrokenOff {A : Type 0} (says : A → List ℕ → A → List ℕ → Type 0) (old : A) (line : List ℕ) (told now : Option (List ℕ)) : Type 0 where
  pub front : List ℕ
  pub begun : IsBegun says old line front
  pub put : now ≡ appended told front

-- the text is the answers to the lines, one behind the other
abbrev pub Answers : {A : Type 0} → (A → List ℕ → A → List ℕ → Type 0) → A → List (List ℕ) → A → List ℕ → Type 0
Answers says old [] new text = (new ≡ old) × (text ≡ [])
Answers {A} says old (line ∷ more) new text =
    (middle : A) × ((first : List ℕ) × ((rest : List ℕ) × (says old line middle first × (Answers says middle more new rest × (text ≡ first ++ rest)))))

-- all lines were answered, and their answers put
pub record AreAnswered {A : Type 0} (says : A → List ℕ → A → List ℕ → Type 0) (old : A) (lines : List (List ℕ)) (new : A) (told now : Option (List ℕ)) : Type 0 where
  pub text : List ℕ
  pub answers : Answers says old lines new text
  pub put : now ≡ appended told text

-- the bytes are none, or a front of an answer to the first of the lines
abbrev pub IsBegunOfFirst : {A : Type 0} → (A → List ℕ → A → List ℕ → Type 0) → A → List (List ℕ) → List ℕ → Type 0
IsBegunOfFirst says old [] front = front ≡ []
IsBegunOfFirst says old (line ∷ more) front = IsBegun says old line front

-- the answers to the lines broke off: those to the first of them were put whole, and of the answer to the next a front, or nothing
pub record AreBrokenOff {A : Type 0} (says : A → List ℕ → A → List ℕ → Type 0) (old : A) (lines : List (List ℕ)) (told now : Option (List ℕ)) : Type 0 where
  pub done : List (List ℕ)
  pub later : List (List ℕ)
  pub whole : lines ≡ done ++ later
  pub middle : A
  pub text : List ℕ
  pub answers : Answers says old done middle text
  pub front : List ℕ
  pub begun : IsBegunOfFirst says middle later front
  pub put : now ≡ appended told (text ++ front)
