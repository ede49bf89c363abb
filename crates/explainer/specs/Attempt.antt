-- One attempt of the machine on cells: the readings see the known front alone.
use Rattle.std.specs.Prelude.{◌≡◌, ℕ, ◌-◌, ◌<◌, ◌≤◌, true, false, Option, Some, None, List, [], ◌∷◌, ◌++◌, drop, length}
use Rattle.fuun_base.specs.declared.letters.Base.{Base}
use Rattle.dna_items.specs.declared.items.PatItem.{PatItem}
use Rattle.dna_items.specs.declared.items.TplItem.{TplItem}
use Rattle.dna_reader.specs.Pairs.{PairRunsOut}
use Rattle.dna_reader.specs.Reading.{Read}
use Rattle.dna_reader.specs.Tables.{ReadsPattern, ReadsTemplate}
use Rattle.matcher.specs.Match.{last_place}
use Rattle.matcher.specs.Groups.{AreGroups}
use Rattle.exec_loop.specs.Attempt as machine
use Rattle.sym_strand.specs.declared.cells.Cell.{Cell}
use Rattle.sym_strand.specs.Cells.{known_front}
use Rattle.explainer.specs.Filling.{fill}
use Rattle.explainer.specs.Leading.{LeadAlong, FailAlong, DependAlong}
use Rattle.explainer.specs.Replacement.{texts_of, depends_on_target, replaced}

-- how an attempt on cells ends, where it does not depend on the target; behind Matched and NoMatch stand the next cells
pub data Ending : Type 0 where
  Matched : ℕ → List Cell → Ending
  NoMatch : List Cell → Ending
  TooLong : Ending
  Finished : Ending

-- an attempt on cells: the items that it read, the RNA that it gave, and how it ended
pub record Attempt : Type 0 where
  pub pattern : List PatItem
  pub template : List TplItem
  pub rna : List (List Base)
  pub ending : Ending

-- both readings of the known front came to their ends, and left these cells
pub record ReadsBoth (z : List Cell) (attempt : Attempt) (rest : List Cell) : Type 0 where
  pub pattern_rna : List (List Base)
  pub template_rna : List (List Base)
  pub middle : List Base
  pub left : List Base
  pub pattern : ReadsPattern (known_front z) (Read attempt.pattern pattern_rna middle)
  pub template : ReadsTemplate middle (Read attempt.template template_rna left)
  pub rna : attempt.rna ≡ pattern_rna ++ template_rna
  pub behind : rest ≡ drop (length (known_front z) - length left) z

-- a reading of the known front ran out
abbrev pub RanOutOn : List Cell → List (List Base) → Type 0
RanOutOn z rna = PairRunsOut (known_front z) rna

-- a reading ran out, and all is known: no items count
pub record Finishes (z : List Cell) (attempt : Attempt) : Type 0 where
  pub ran_out : RanOutOn z attempt.rna
  pub whole : length (known_front z) ≡ length z
  pub no_pattern : attempt.pattern ≡ []
  pub no_template : attempt.template ≡ []

-- the pattern fails on what the readings left, which are the next cells
pub record FindsNone (z : List Cell) (attempt : Attempt) (next : List Cell) : Type 0 where
  pub reads : ReadsBoth z attempt next
  pub fails : FailAlong next attempt.pattern 0

-- the pattern leads through places of what the readings left
pub record Matches (z : List Cell) (attempt : Attempt) (rest : List Cell) (places : List ℕ) (groups : List (ℕ × ℕ)) : Type 0 where
  pub reads : ReadsBoth z attempt rest
  pub leads : LeadAlong rest attempt.pattern 0 places
  pub grouped : AreGroups attempt.pattern (0 ∷ places) groups

-- the pattern matches, the template quotes only bases, and these are the cells with what it puts in the place of what was matched
pub record Rewrites (z : List Cell) (attempt : Attempt) (stop : ℕ) (next : List Cell) : Type 0 where
  pub rest : List Cell
  pub places : List ℕ
  pub groups : List (ℕ × ℕ)
  pub matches : Matches z attempt rest places groups
  pub known : depends_on_target (texts_of rest groups) attempt.template ≡ false
  pub stops : stop ≡ last_place (0 ∷ places)
  pub puts : next ≡ replaced rest attempt.template groups stop

-- what makes an attempt on cells end so, under a limit on the length of the next cells
abbrev pub EndsBy : List Cell → ℕ → Attempt → Ending → Type 0
EndsBy z limit attempt (Matched stop next) = Rewrites z attempt stop next × (length next ≤ limit)
EndsBy z limit attempt (NoMatch next) = FindsNone z attempt next
EndsBy z limit attempt TooLong = (stop : ℕ) × (next : List Cell) × Rewrites z attempt stop next × (limit < length next)
EndsBy z limit attempt Finished = Finishes z attempt

-- the attempt on cells under the limit
abbrev pub IsAttempt : List Cell → ℕ → Attempt → Type 0
IsAttempt z limit attempt = EndsBy z limit attempt attempt.ending

-- the attempt on cells depends on the target: a reading runs out before a place of it, or an item comes to such a place,
-- or the template quotes one
pub data DependsOn (z : List Cell) : Type 0 where
  InReading : (rna : List (List Base)) → RanOutOn z rna → length (known_front z) < length z → DependsOn z
  InMatching : (attempt : Attempt) (rest : List Cell) → ReadsBoth z attempt rest → DependAlong rest attempt.pattern 0 → DependsOn z
  InTemplate : (attempt : Attempt) (rest : List Cell) (places : List ℕ) (groups : List (ℕ × ℕ)) → Matches z attempt rest places groups
      → depends_on_target (texts_of rest groups) attempt.template ≡ true → DependsOn z

-- the next cells, where there are any
abbrev pub next_cells : Ending → Option (List Cell)
next_cells (Matched stop next) = Some next
next_cells (NoMatch next) = Some next
next_cells TooLong = None
next_cells Finished = None

-- the ending of the machine's attempt, for a target
abbrev pub filled_ending : List Base → Ending → machine.Ending
filled_ending d (Matched stop next) = machine.Matched stop (fill d next)
filled_ending d (NoMatch next) = machine.NoMatch (fill d next)
filled_ending d TooLong = machine.TooLong
filled_ending d Finished = machine.Finished

-- the machine's attempt, for a target
abbrev pub filled : List Base → Attempt → machine.Attempt
filled d attempt = record { pattern = attempt.pattern; template = attempt.template; rna = attempt.rna; ending = filled_ending d attempt.ending }
