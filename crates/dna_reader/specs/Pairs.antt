-- A pattern and the template behind it: what is read from the front of a DNA, and what a reader leaves of it.
use Rattle.std.specs.Prelude.{◌≡◌, ℕ, List, ◌++◌, drop}
use Rattle.fuun_base.specs.declared.letters.Base.{Base}
use Rattle.dna_items.specs.declared.items.PatItem.{PatItem}
use Rattle.dna_items.specs.declared.items.TplItem.{TplItem}
use Rattle.dna_items.specs.Held.{held_pattern, held_template}
use Rattle.dna_reader.specs.Reading.{Read, RanOut}
use Rattle.dna_reader.specs.Tables.{ReadsPattern, ReadsTemplate}

-- a pattern and then a template are read from d to their ends, give this RNA, and leave the rest
pub record PairStands (d : List Base) (pattern : List PatItem) (template : List TplItem) (rna : List (List Base)) (rest : List Base) : Type 0 where
  pub pattern_rna : List (List Base)
  pub template_rna : List (List Base)
  pub middle : List Base
  pub reads_pattern : ReadsPattern d (Read pattern pattern_rna middle)
  pub reads_template : ReadsTemplate middle (Read template template_rna rest)
  pub whole : rna ≡ pattern_rna ++ template_rna

-- the pattern runs out with this RNA, or it comes to its end and the template behind it runs out, and the RNA is both of theirs
pub data PairRunsOut (d : List Base) (rna : List (List Base)) : Type 0 where
  PatternRunsOut : ReadsPattern d (RanOut rna) → PairRunsOut d rna
  TemplateRunsOut : (pattern : List PatItem) (pattern_rna template_rna : List (List Base)) (middle : List Base)
      → ReadsPattern d (Read pattern pattern_rna middle) → ReadsTemplate middle (RanOut template_rna) → rna ≡ pattern_rna ++ template_rna
      → PairRunsOut d rna

-- the readings of d give this RNA, whether they run out or not
pub data PairGives (d : List Base) (rna : List (List Base)) : Type 0 where
  ByPair : (pattern : List PatItem) (template : List TplItem) (rest : List Base) → PairStands d pattern template rna rest → PairGives d rna
  ByRunningOut : PairRunsOut d rna → PairGives d rna

-- the pair at a place was read up to the next one, its numbers are held, and its RNA was taken
pub record PairIsRead {Taker : Type 0} (follows : Taker → List (List Base) → Taker → Type 0) (old new : Taker) (d : List Base) (place : ℕ) (pattern : List PatItem) (template : List TplItem) (next : ℕ) : Type 0 where
  pub items : List PatItem
  pub puts : List TplItem
  pub rna : List (List Base)
  pub stands : PairStands (drop place d) items puts rna (drop next d)
  pub pattern_held : pattern ≡ held_pattern items
  pub template_held : template ≡ held_template puts
  pub taken : follows old rna new

-- the pair at a place ran out, and its RNA was taken
pub record PairRanOut {Taker : Type 0} (follows : Taker → List (List Base) → Taker → Type 0) (old new : Taker) (d : List Base) (place : ℕ) : Type 0 where
  pub rna : List (List Base)
  pub ran_out : PairRunsOut (drop place d) rna
  pub taken : follows old rna new

-- the taker stands within the RNA that the readings at a place give
pub record StandsWithinPair {Taker : Type 0} (within : Taker → List (List Base) → Taker → Type 0) (old new : Taker) (d : List Base) (place : ℕ) : Type 0 where
  pub rna : List (List Base)
  pub gives : PairGives (drop place d) rna
  pub stands : within old rna new
