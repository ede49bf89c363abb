-- What the run on a load does.
use Rattle.std.specs.Prelude.{◌≡◌, ℕ, ◌<◌, Some, List, [], ◌∷◌, length}
use Rattle.fuun_base.specs.declared.letters.Base.{Base}
use Rattle.fuun_base.specs.Tally.{tally_of}
use Rattle.exec_loop.specs.Attempt.{Attempt, next_dna}
use Rattle.exec_loop.specs.Run.{Run, IsRun}
use Rattle.patch_compile.specs.Law.{Leaves}
use Rattle.patch_compile.specs.Splice.{patched}
use Rattle.workload.specs.declared.summary.Summary.{Summary}
use Rattle.workload.specs.Load.{patches_of, target_of}
use Rattle.workload.specs.Mark.{mark_of}
use Rattle.workload.specs.Summary.{summary_text}
use Rattle.fuun_top.specs.Bench.{load_dna, load_limit}
use Rattle.fuun_top.specs.Chaining.{Gives}
use Rattle.fuun_top.specs.Output.{Output}
use Rattle.fuun_top.specs.Reading.{Files}
use Rattle.fuun_top.specs.ReadingRoom.{IsLoadInRange}
use Rattle.fuun_top.specs.declared.status.Status.TheVariants.{Done}
use Rattle.fuun_words.specs.declared.request.Request.TheVariants as words

-- the target of a load with its patches carried out
abbrev pub load_patched : ℕ → ℕ → ℕ → List Base
load_patched seed size rounds = patched (target_of seed size) (patches_of seed size rounds).rows

-- each DNA on the way has fewer bases than that: the first, and the next of each attempt
abbrev pub StayShorter : ℕ → List Base → List Attempt → Type 0
StayShorter most d [] = length d < most
StayShorter most d (attempt ∷ attempts) =
    (length d < most) × ((next : List Base) × (next_dna attempt.ending ≡ Some next) × StayShorter most next attempts)

-- a run spends an attempt for each patch, matches each time, gives no RNA, leaves exactly the patched target, and no DNA on
-- its way reaches the limit
pub record CarriesOutLoad (seed size rounds : ℕ) (run : Run) : Type 0 where
  pub leaves : Leaves run (load_patched seed size rounds)
  pub attempts : length run.attempts ≡ rounds
  pub shorter : StayShorter load_limit (load_dna seed size rounds) run.attempts

-- the run on each load does so: there is one, and each is such a one
abbrev pub LoadsAreCarriedOut : Type 0
LoadsAreCarriedOut =
    (seed size rounds : ℕ) → IsLoadInRange seed size rounds
    → ((run : Run) × IsRun (load_dna seed size rounds) rounds load_limit run)
    × ((run : Run) → IsRun (load_dna seed size rounds) rounds load_limit run → CarriesOutLoad seed size rounds run)

-- what is told of a run that made so many attempts, gave no RNA and left a DNA
abbrev pub summary_left : ℕ → List Base → Summary
summary_left attempts left = record { attempts = attempts; tally = tally_of left; rna = 0; mark = mark_of left }

-- so `bench` tells of an attempt for each patch, of no RNA, and of the patched target
abbrev pub LoadsAreSummedUp : Type 0
LoadsAreSummedUp =
    (files : Files) (seed size rounds : ℕ) (output : Output) → IsLoadInRange seed size rounds
    → Gives files (words.Bench seed size rounds) output
    → output ≡ record { status = Done; bytes = summary_text (summary_left rounds (load_patched seed size rounds)) }
