-- What a traced run leaves.
use Rattle.std.specs.Prelude.{◌≡◌, ℕ, List, ◌∷◌, ◌++◌, length, Option, Result, Ok, Err}
use Rattle.fuun_base.specs.declared.letters.Base.{Base}
use Rattle.fuun_io.specs.Written.{appended, PutsFront}
use Rattle.exec_loop.specs.Attempt.{Attempt, IsAttempt}
use Rattle.exec_loop.specs.Made.{dna_behind}
use Rattle.exec_loop.specs.Run.{Leads, Run, IsRun}
use Rattle.exec_loop.specs.State.{State}
use Rattle.exec_loop.specs.declared.machine.RunEnd.{RunEnd}
use Rattle.listing.specs.declared.pairs.ListError.{ListError}
use Rattle.listing.specs.declared.pairs.ListError.TheVariants.{WriteFault, NoMemory}
use Rattle.tracer.specs.Lines.{attempt_line, trace_text}

-- the machine made its run, which ended so, and the line of each attempt was appended
pub record Traces (old new : State) (budget : ℕ) (end : RunEnd) (told now : Option (List ℕ)) : Type 0 where
  pub run : Run
  pub is : IsRun old.dna budget old.limit run
  pub ends : run.end ≡ end
  pub dna : run.dna ≡ new.dna
  pub lines : now ≡ appended told (trace_text 0 old.dna run.attempts)

-- the line of an attempt was not written whole: the machine is as that attempt left it, the lines of those before it
-- were appended and then a front of its own
pub record TracesUpTo (old new : State) (budget : ℕ) (told now : Option (List ℕ)) : Type 0 where
  pub run : Run
  pub is : IsRun old.dna budget old.limit run
  pub earlier : List Attempt
  pub last : Attempt
  pub left : List Attempt
  pub front : run.attempts ≡ earlier ++ last ∷ left
  pub before : List Base
  pub leads : Leads old.limit old.dna earlier before
  pub attempt : IsAttempt before old.limit last
  pub dna : new.dna ≡ dna_behind before last.ending
  pub lines : PutsFront (appended told (trace_text 0 old.dna earlier)) now (attempt_line (length earlier) before last)
  pub part : PutsFront told now (trace_text 0 old.dna run.attempts)

-- an attempt got no memory: the machine is as it was before it, and the lines of those before it were appended
pub record TracesBefore (old new : State) (budget : ℕ) (told now : Option (List ℕ)) : Type 0 where
  pub run : Run
  pub is : IsRun old.dna budget old.limit run
  pub made : List Attempt
  pub failed : Attempt
  pub left : List Attempt
  pub front : run.attempts ≡ made ++ failed ∷ left
  pub leads : Leads old.limit old.dna made new.dna
  pub lines : now ≡ appended told (trace_text 0 old.dna made)
  pub part : PutsFront told now (trace_text 0 old.dna run.attempts)

-- what each answer leaves
abbrev pub IsTraced : State → State → ℕ → Result RunEnd ListError → Option (List ℕ) → Option (List ℕ) → Type 0
IsTraced old new budget (Ok end) told now = Traces old new budget end told now
IsTraced old new budget (Err WriteFault) told now = TracesUpTo old new budget told now
IsTraced old new budget (Err NoMemory) told now = TracesBefore old new budget told now
