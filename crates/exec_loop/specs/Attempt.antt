-- One attempt of the machine: read a pattern, read a template, match, replace.
use Rattle.std.specs.Prelude.{◌≡◌, ℕ, ◌<◌, ◌≤◌, Option, Some, None, List, [], length}
use Rattle.fuun_base.specs.declared.letters.Base.{Base}
use Rattle.dna_items.specs.declared.items.PatItem.{PatItem}
use Rattle.dna_items.specs.declared.items.TplItem.{TplItem}
use Rattle.dna_reader.specs.Pairs.{PairStands, PairRunsOut}
use Rattle.matcher.specs.Match.{IsMatch, HasNoMatch, last_place}
use Rattle.matcher.specs.Groups.{AreGroups}
use Rattle.replacer.specs.Replacement.{replaced}

-- how an attempt ends; behind Matched and NoMatch stands the next DNA, and Matched begins with the stop
pub data Ending : Type 0 where
  Matched : ℕ → List Base → Ending
  NoMatch : List Base → Ending
  TooLong : Ending
  Finished : Ending

-- an attempt: the items that it read, the RNA that it gave, and how it ended
pub record Attempt : Type 0 where
  pub pattern : List PatItem
  pub template : List TplItem
  pub rna : List (List Base)
  pub ending : Ending

-- a reading ran out: no items count
pub record ReadingRanOut (d : List Base) (attempt : Attempt) : Type 0 where
  pub ran_out : PairRunsOut d attempt.rna
  pub no_pattern : attempt.pattern ≡ []
  pub no_template : attempt.template ≡ []

-- the pattern has no match on what the readings left, which is the next DNA
pub record FindsNone (d : List Base) (attempt : Attempt) (next : List Base) : Type 0 where
  pub reads : PairStands d attempt.pattern attempt.template attempt.rna next
  pub none : HasNoMatch next attempt.pattern

-- the pattern has a match, and this is the DNA with what the template puts in the place of what was matched
pub record Rewrites (d : List Base) (attempt : Attempt) (stop : ℕ) (next : List Base) : Type 0 where
  pub rest : List Base
  pub places : List ℕ
  pub groups : List (ℕ × ℕ)
  pub reads : PairStands d attempt.pattern attempt.template attempt.rna rest
  pub match : IsMatch rest attempt.pattern places
  pub stops : stop ≡ last_place places
  pub grouped : AreGroups attempt.pattern places groups
  pub puts : next ≡ replaced rest attempt.template groups stop

-- what makes an attempt on d end so, under a limit on the length of the next DNA
abbrev pub EndsBy : List Base → ℕ → Attempt → Ending → Type 0
EndsBy d limit attempt (Matched stop next) = Rewrites d attempt stop next × (length next ≤ limit)
EndsBy d limit attempt (NoMatch next) = FindsNone d attempt next
EndsBy d limit attempt TooLong = (stop : ℕ) × (next : List Base) × Rewrites d attempt stop next × (limit < length next)
EndsBy d limit attempt Finished = ReadingRanOut d attempt

-- the attempt on d under the limit
abbrev pub IsAttempt : List Base → ℕ → Attempt → Type 0
IsAttempt d limit attempt = EndsBy d limit attempt attempt.ending

-- the next DNA, where there is one
abbrev pub next_dna : Ending → Option (List Base)
next_dna (Matched stop next) = Some next
next_dna (NoMatch next) = Some next
next_dna TooLong = None
next_dna Finished = None
