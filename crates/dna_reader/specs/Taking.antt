-- What a reader leaves: the reading at a place of a DNA, its numbers held, and its RNA with a taker.
use Rattle.std.specs.Prelude.{◌≡◌, ℕ, ◌+◌, ◌≤◌, List, Some, drop, length}
use Rattle.fuun_base.specs.declared.letters.Base.{Base}
use Rattle.dna_items.specs.declared.items.PatItem.{PatItem}
use Rattle.dna_items.specs.declared.items.TplItem.{TplItem}
use Rattle.dna_items.specs.Held.{held, held_pattern, held_template}
use Rattle.dna_reader.specs.Numeral.{numeral}
use Rattle.dna_reader.specs.Reading.{Reading, Read, RanOut, rna_in}
use Rattle.dna_reader.specs.Tables.{ReadsPattern, ReadsTemplate}

-- a numeral stands at a place; its value is held, and the next place is behind it
pub record IsNumeralAt (d : List Base) (place value next : ℕ) : Type 0 where
  pub number : ℕ
  pub takes : ℕ
  pub is : numeral (drop place d) ≡ Some (number, takes)
  pub held : value ≡ held number
  pub behind : next ≡ place + takes
  pub within : next ≤ length d

-- the pattern at a place was read to its end, and its RNA taken
pub record PatternIsRead {Taker : Type 0} (follows : Taker → List (List Base) → Taker → Type 0) (old new : Taker) (d : List Base) (place : ℕ) (items : List PatItem) (next : ℕ) : Type 0 where
  pub read : List PatItem
  pub rna : List (List Base)
  pub reads : ReadsPattern (drop place d) (Read read rna (drop next d))
  pub held : items ≡ held_pattern read
  pub taken : follows old rna new

-- the template at a place was read to its end, and its RNA taken
pub record TemplateIsRead {Taker : Type 0} (follows : Taker → List (List Base) → Taker → Type 0) (old new : Taker) (d : List Base) (place : ℕ) (items : List TplItem) (next : ℕ) : Type 0 where
  pub read : List TplItem
  pub rna : List (List Base)
  pub reads : ReadsTemplate (drop place d) (Read read rna (drop next d))
  pub held : items ≡ held_template read
  pub taken : follows old rna new

-- the reading of d ran out, and its RNA was taken
pub record RanOutTaking {Taker Item : Type 0} (reads : List Base → Reading Item → Type 0) (follows : Taker → List (List Base) → Taker → Type 0) (old new : Taker) (d : List Base) : Type 0 where
  pub rna : List (List Base)
  pub ran_out : reads d (RanOut rna)
  pub taken : follows old rna new

-- the taker stands within the RNA of the reading of d
pub record StandsWithin {Taker Item : Type 0} (reads : List Base → Reading Item → Type 0) (within : Taker → List (List Base) → Taker → Type 0) (old new : Taker) (d : List Base) : Type 0 where
  pub reading : Reading Item
  pub is : reads d reading
  pub stands : within old (rna_in reading) new
