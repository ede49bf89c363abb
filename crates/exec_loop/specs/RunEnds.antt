-- How an attempt ends a run.
use Rattle.std.specs.Prelude.{ℕ, ◌+◌, Option, Some, None}
use Rattle.exec_loop.specs.declared.machine.Outcome.{Outcome}
use Rattle.exec_loop.specs.declared.machine.Outcome.TheVariants.{Matched, NoMatch, TooLong, Finished}
use Rattle.exec_loop.specs.declared.machine.RunEnd.{RunEnd}
use Rattle.exec_loop.specs.declared.machine.RunEnd.TheVariants as end

-- the end of a run by an attempt that was made after so many others: none where the run goes on
abbrev pub run_end : Outcome → ℕ → Option RunEnd
run_end (Matched stop) before = None
run_end NoMatch before = None
run_end TooLong before = Some (end.TooLong before)
run_end Finished before = Some (end.Finished (before + 1))
