-- The versions of a DNA: each is the one before it after an attempt.
use Rattle.std.specs.Prelude.{◌≡◌, ℕ, ◌^◌, List, length, None}
use Rattle.fuun_base.specs.declared.letters.Base.{Base}
use Rattle.exec_loop.specs.Attempt.{Attempt, Ending, IsAttempt, next_dna}
use Rattle.exec_loop.specs.Run.{Leads}

-- the most attempts that are made
abbrev pub most_attempts : ℕ
most_attempts = 2 ^ 24

-- the DNA after so many attempts, counted from 0
pub record IsVersion (limit : ℕ) (start : List Base) (number : ℕ) (dna : List Base) : Type 0 where
  pub attempts : List Attempt
  pub leads : Leads limit start attempts dna
  pub count : length attempts ≡ number

-- the attempt on this DNA ends so
pub record EndsBy (limit : ℕ) (dna : List Base) (ending : Ending) : Type 0 where
  pub attempt : Attempt
  pub is : IsAttempt dna limit attempt
  pub ends : attempt.ending ≡ ending

-- there are so many attempts that give a next DNA, and then one that gives none
pub record IsEnd (limit : ℕ) (start : List Base) (number : ℕ) : Type 0 where
  pub dna : List Base
  pub version : IsVersion limit start number dna
  pub attempt : Attempt
  pub is : IsAttempt dna limit attempt
  pub none : next_dna attempt.ending ≡ None
