-- What comes of items, as they are held, on what a DNA holds from a place on.
use Rattle.std.specs.Prelude.{◌≡◌, ℕ, ◌+◌, ◌*◌, ◌<◌, ◌≤◌, Option, Some, None, List, length, drop, unwrap_or}
use Rattle.fuun_base.specs.declared.letters.Base.{Base}
use Rattle.fuun_base.specs.Ticks.{Ticks}
use Rattle.dna_items.specs.declared.items.PatItem.{PatItem}
use Rattle.dna_items.specs.declared.items.TplItem.{TplItem}
use Rattle.matcher.specs.Match.{HasNoMatch}
use Rattle.matcher.specs.Found.{MatchesAt}
use Rattle.replacer.specs.Replacement.{texts_of, replaced}
use Rattle.replacer.specs.Weight.{quoted_bases, weight_but_a_cut}
use Rattle.exec_loop.specs.State.{State}
use Rattle.exec_loop.specs.declared.machine.Outcome.{Outcome}
use Rattle.exec_loop.specs.declared.machine.Outcome.TheVariants.{Matched, NoMatch, TooLong, Finished}

-- the pattern matches up to a stop counted from the place, and this is the DNA with the template's replacement
pub record ReplacesAt (d : List Base) (place : ℕ) (pattern : List PatItem) (template : List TplItem) (stop : ℕ) (next : List Base) : Type 0 where
  pub groups : List (ℕ × ℕ)
  pub matches : MatchesAt d place pattern (place + stop) groups
  pub puts : next ≡ replaced d template groups (place + stop)

-- the outcome, and the next DNA where there is one
abbrev pub ComesTo : List Base → ℕ → ℕ → List PatItem → List TplItem → Outcome → Option (List Base) → Type 0
ComesTo d place limit pattern template (Matched stop) next =
    (dna : List Base) × ReplacesAt d place pattern template stop dna × (length dna ≤ limit) × (next ≡ Some dna)
ComesTo d place limit pattern template NoMatch next = HasNoMatch (drop place d) pattern × (next ≡ Some (drop place d))
ComesTo d place limit pattern template TooLong next =
    (stop : ℕ) × (dna : List Base) × ReplacesAt d place pattern template stop dna × (limit < length dna) × (next ≡ None)
ComesTo d place limit pattern template Finished next = ⊥

-- the same, where the DNA stays as it is if there is no next one
pub record ComesToState (old new : State) (place : ℕ) (pattern : List PatItem) (template : List TplItem) (outcome : Outcome) : Type 0 where
  pub next : Option (List Base)
  pub comes : ComesTo old.dna place old.limit pattern template outcome next
  pub dna : new.dna ≡ unwrap_or next old.dna

-- the steps that come of items: no more than one cut may make, or those of a replacement within the limit
pub data ItemsTick (d : List Base) (place limit : ℕ) (pattern : List PatItem) (template : List TplItem) (height old new : ℕ) : Type 0 where
  ByCut : Ticks old new (64 * (height + 1)) → ItemsTick d place limit pattern template height old new
  ByMatch : (stop : ℕ) (groups : List (ℕ × ℕ)) → MatchesAt d place pattern stop groups → length (replaced d template groups stop) ≤ limit
      → Ticks old new (weight_but_a_cut (length template) (quoted_bases (texts_of d groups) template) height)
      → ItemsTick d place limit pattern template height old new
