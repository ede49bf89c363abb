-- What an attempt on cells makes of them and of the RNA so far.
use Rattle.std.specs.Prelude.{◌≡◌, ◌⊎◌, ℕ, ◌<◌, ◌≤◌, Bool, true, false, Some, List, ◌++◌, MatchOption, Option, length, drop, map}
use Rattle.std.specs.List.{flat_map}
use Rattle.fuun_base.specs.declared.letters.Base.{Base}
use Rattle.dna_items.specs.declared.items.PatItem.{PatItem}
use Rattle.dna_items.specs.declared.items.TplItem.{TplItem}
use Rattle.sym_strand.specs.declared.cells.Cell.{Cell}
use Rattle.sym_strand.specs.declared.cells.Cell.TheVariants.{Known}
use Rattle.explainer.specs.Attempt as one
use Rattle.explainer.specs.Attempt.{Attempt, IsAttempt, DependsOn, next_cells}
use Rattle.explainer.specs.Leading.{FailAlong, DependAlong}
use Rattle.explainer.specs.Passing.{LeadTo}
use Rattle.explainer.specs.Replacement.{texts_of, put_by, depends_on_target}
use Rattle.explainer.specs.declared.attempt.Next.{Next}
use Rattle.explainer.specs.declared.attempt.Next.TheVariants.{Cells, TooLong, Finished, Depends}
use Rattle.explainer.specs.declared.fronts.Front.{Front}

-- the cells that stand so far
abbrev pub cells_of : Front → List Cell
cells_of front = front.done ++ map Known front.waiting.items

-- what a template puts was put where it fits the room
abbrev pub PutsWhere : Bool → ℕ → List Cell → List Cell → List Cell → Type 0
PutsWhere true room old new text = (new ≡ old ++ text) × (length text ≤ room)
PutsWhere false room old new text = room < length text

-- the cells behind a template's puts and a tail, where they are within the limit
abbrev pub ReplacesWithin : List (List Cell) → List TplItem → List Cell → ℕ → Option (List Cell) → Type 0
ReplacesWithin texts items tail limit next =
    MatchOption next (limit < length (flat_map (put_by texts) items ++ tail))
    (λ cells. (cells ≡ flat_map (put_by texts) items ++ tail) × (length cells ≤ limit))

-- what comes of items on the cells that were left
abbrev pub PutsSo : List (List Cell) → List TplItem → List Cell → ℕ → Next → Type 0
PutsSo texts items tail limit (Cells next) =
    (depends_on_target texts items ≡ false) × (next ≡ flat_map (put_by texts) items ++ tail) × (length next ≤ limit)
PutsSo texts items tail limit TooLong = (depends_on_target texts items ≡ false) × (limit < length (flat_map (put_by texts) items ++ tail))
PutsSo texts items tail limit Finished = ⊥
PutsSo texts items tail limit Depends = depends_on_target texts items ≡ true

-- an attempt of this ending was made, and its RNA put behind the RNA so far
pub record MakesAttempt (z : List Cell) (limit : ℕ) (old new : List (List Base)) (Ends : one.Ending → Type 0) : Type 0 where
  pub attempt : Attempt
  pub is : IsAttempt z limit attempt
  pub ends : Ends attempt.ending
  pub rna : new ≡ old ++ attempt.rna

-- what comes of an attempt on cells
abbrev pub Comes : List Cell → ℕ → List (List Base) → List (List Base) → Next → Type 0
Comes z limit old new (Cells next) = MakesAttempt z limit old new (λ ending. next_cells ending ≡ Some next) × (length next ≤ limit)
Comes z limit old new TooLong = MakesAttempt z limit old new (λ ending. ending ≡ one.TooLong)
Comes z limit old new Finished = MakesAttempt z limit old new (λ ending. ending ≡ one.Finished)
Comes z limit old new Depends = DependsOn z

-- items lead to a stop on the cells that were left, and this comes of the template
pub record PutsBehind (rest : List Cell) (pattern : List PatItem) (template : List TplItem) (limit : ℕ) (next : Next) : Type 0 where
  pub stop : ℕ
  pub groups : List (ℕ × ℕ)
  pub leads : LeadTo rest pattern stop groups
  pub puts : PutsSo (texts_of rest groups) template (drop stop rest) limit next

-- what comes of items on the cells that were left
abbrev pub ComesOfItems : List Cell → List PatItem → List TplItem → ℕ → Next → Type 0
ComesOfItems rest pattern template limit next =
    PutsBehind rest pattern template limit next
    ⊎ (((next ≡ Cells rest) × FailAlong rest pattern 0)
    ⊎ ((next ≡ Depends) × DependAlong rest pattern 0))
