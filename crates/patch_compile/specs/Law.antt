-- What a prefix does before a DNA.
use Rattle.std.specs.Prelude.{◌≡◌, ℕ, ◌≤◌, List, [], ◌∷◌, ◌++◌, length, take, drop}
use Rattle.fuun_base.specs.declared.letters.Base.{Base}
use Rattle.exec_loop.specs.declared.machine.RunEnd.TheVariants.{Budget}
use Rattle.exec_loop.specs.Attempt.{Attempt, Matched}
use Rattle.exec_loop.specs.Run.{Run, IsRun}
use Rattle.patch_text.specs.declared.rows.PatchRow.{PatchRow}
use Rattle.patch_text.specs.Contents.{Contents}
use Rattle.patch_text.specs.Lengths.{AllFit}
use Rattle.patch_compile.specs.Splice.{patched}
use Rattle.patch_compile.specs.Code.{prefix}

-- each DNA on the way is within the limit: the parts of the rows that are left, and what the others made of d
abbrev pub StaysWithin : ℕ → List PatchRow → List Base → Type 0
StaysWithin limit rows d = (done : ℕ) → done ≤ length rows → length (prefix (drop done rows) ++ patched d (take done rows)) ≤ limit

-- an attempt in which the pattern matched
abbrev pub IsMatching : Attempt → Type 0
IsMatching attempt = (stop : ℕ) × (next : List Base) × (attempt.ending ≡ Matched stop next)

abbrev pub AreMatching : List Attempt → Type 0
AreMatching [] = Unit {0}
AreMatching (attempt ∷ attempts) = IsMatching attempt × AreMatching attempts

-- a run that spends its budget, matches in each attempt, gives no RNA and leaves this DNA
pub record Leaves (run : Run) (last : List Base) : Type 0 where
  pub end : run.end ≡ Budget
  pub matching : AreMatching run.attempts
  pub rna : run.rna ≡ []
  pub dna : run.dna ≡ last

-- the run of a DNA with as many attempts as there are rows leaves this DNA: there is such a run, and each is so
pub record RunLeaves (start : List Base) (budget limit : ℕ) (last : List Base) : Type 0 where
  pub run : Run
  pub is : IsRun start budget limit run
  pub leaves : (other : Run) → IsRun start budget limit other → Leaves other last

-- before each DNA of the length that the rows are for, the prefix carries them out
abbrev pub CarriesOut : Contents → List Base → Type 0
CarriesOut contents start =
    (d : List Base) (limit : ℕ)
    → length d ≡ contents.stated → StaysWithin limit contents.rows d
    → RunLeaves (start ++ d) (length contents.rows) limit (patched d contents.rows)

-- the prefix of rows that fit carries them out, one attempt a row
abbrev pub PrefixCarriesOut : Type 0
PrefixCarriesOut = (contents : Contents) → AllFit contents.stated contents.rows → CarriesOut contents (prefix contents.rows)
