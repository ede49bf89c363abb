-- How many nodes of ropes a call may make.
use Rattle.std.specs.Prelude.{◌≡◌, ℕ, ◌+◌, ◌*◌, ◌/◌, Option, Some, None, Ok, Err, List, length}
use Rattle.fuun_base.specs.declared.letters.Base.{Base}
use Rattle.fuun_base.specs.Quote.{bits}
use Rattle.fuun_base.specs.Ticks.{Ticks}
use Rattle.exec_loop.specs.Run.{Run, IsRun}
use Rattle.exec_loop.specs.Weights.{WeighTogether}
use Rattle.rewinder.specs.declared.orders.Order.{Order}
use Rattle.rewinder.specs.Weights.{ScriptWeighs}
use Rattle.fuun_top.specs.declared.inputs.Inputs.{Inputs}
use Rattle.fuun_top.specs.declared.inputs.Inputs.TheVariants as inputs
use Rattle.fuun_top.specs.Asked.{sorted}
use Rattle.fuun_top.specs.Bench.{load_dna, load_limit}
use Rattle.fuun_top.specs.Reading.{Files, Reading, inputs_of}
use Rattle.fuun_words.specs.declared.request.Request.{Request}

-- how high a rope within a limit may be
abbrev pub most_height : ℕ → ℕ
most_height limit = 2 * bits limit

-- what a start of so many bases may make
abbrev pub start_steps : ℕ → ℕ
start_steps len = 2 * (len / 512 + 1)

-- a run makes what its start may, and for its attempts no more than they weigh together
abbrev pub RunTicks : List Base → ℕ → ℕ → ℕ → ℕ → Type 0
RunTicks dna budget limit old new =
    (run : Run) (total : ℕ) → IsRun dna budget limit run → WeighTogether (most_height limit) dna run.attempts total
    → Ticks old new (start_steps (length dna) + total)

-- a run that a script goes through makes what its start may, and what the orders weigh together
abbrev pub RewindTicks : List Base → List Order → ℕ → ℕ → ℕ → Type 0
RewindTicks dna orders limit old new =
    (total : ℕ) → ScriptWeighs (most_height limit) limit dna orders 0 0 total → Ticks old new (start_steps (length dna) + total)

-- a run makes its nodes, one on a load too, and a listing those of its DNA; else none is made on this counter. What is told
-- of a prefix makes nodes too, on a counter of its own
abbrev pub InputsTick : Inputs → ℕ → ℕ → Type 0
InputsTick (inputs.Run verb dna budget limit) old new = RunTicks dna budget limit old new
InputsTick (inputs.Trace dna budget limit) old new = RunTicks dna budget limit old new
InputsTick (inputs.Plain plain) old new = new ≡ old
InputsTick (inputs.Listing dna count) old new = Ticks old new (start_steps (length dna))
InputsTick (inputs.Explain prefix len attempts limit) old new = new ≡ old
InputsTick (inputs.Rewind dna orders limit) old new = RewindTicks dna orders limit old new
InputsTick (inputs.Text verb text) old new = new ≡ old
InputsTick (inputs.Bench seed size rounds) old new = RunTicks (load_dna seed size rounds) rounds load_limit old new

-- nor where the inputs are refused
abbrev pub ReadingTicks : Reading Inputs → ℕ → ℕ → Type 0
ReadingTicks None old new = Unit {0}
ReadingTicks (Some (Err status)) old new = new ≡ old
ReadingTicks (Some (Ok inputs)) old new = InputsTick inputs old new

-- nor where there is no request
abbrev pub CallTicks : Files → Option Request → ℕ → ℕ → Type 0
CallTicks files None old new = new ≡ old
CallTicks files (Some asked) old new = ReadingTicks (inputs_of files (sorted asked)) old new
