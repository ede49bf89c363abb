-- The nodes that a call made, against what it may make.
use Rattle.std.proofs.Common.{◌≡◌, inl, inr, ℕ, Option, Some, None, Ok, Err, List, length, refl, sym, subst, arith}
use Rattle.fuun_base.specs.declared.letters.Base.{Base}
use Rattle.fuun_base.specs.Ticks.{Ticks}
use Rattle.exec_loop.specs.State.{State}
use Rattle.rewinder.specs.declared.orders.Order.{Order}
use Rattle.rewinder.specs.Rewinding.{Rewinding}
use Rattle.rewinder.specs.Weights.{ScriptWeighs, TicksForScript}
use Rattle.exec_loop.specs.Run.{IsRun}
use Rattle.exec_loop.specs.Weights.{TicksForRun, WeighTogether}
use Rattle.fuun_top.specs.declared.inputs.Inputs.{Inputs}
use Rattle.fuun_top.specs.declared.inputs.Inputs.TheVariants as inputs
use Rattle.fuun_top.specs.declared.request.Asked.{Asked}
use Rattle.fuun_top.specs.Asked.{sorted}
use Rattle.fuun_top.specs.Reading.{Files, Reading, inputs_of}
use Rattle.fuun_top.specs.Steps.{most_height, start_steps, RewindTicks, RunTicks, InputsTick, ReadingTicks, CallTicks}
use Rattle.fuun_top.proofs.TopLemmas.{Agrees}
use Rattle.fuun_words.specs.declared.request.Request.{Request}

-- the start could not be made
pub start_ticked : (dna : List Base) (budget limit old new : ℕ) → Ticks old new (start_steps (length dna)) → RunTicks dna budget limit old new
start_ticked dna budget limit old new ticks = λ run total is weigh. (ticks.0, omega (arith, ticks.1))

-- the start, and then the attempts
pub run_ticked : (state : State) (dna : List Base) (budget limit old mid new : ℕ) → state.dna ≡ dna → state.limit ≡ limit → Ticks old mid (start_steps (length dna))
    → TicksForRun (most_height state.limit) budget state mid new → RunTicks dna budget limit old new
run_ticked state dna budget limit old mid new same same_limit started ticked = λ run total is weigh.
    let is_run : IsRun state.dna budget state.limit run = subst (λ l. IsRun state.dna budget l run) (sym same_limit) (subst (λ d. IsRun d budget limit run) (sym same) is) in
    let weighs : WeighTogether (most_height state.limit) state.dna run.attempts total =
    subst (λ l. WeighTogether (most_height l) state.dna run.attempts total) (sym same_limit) (subst (λ d. WeighTogether (most_height limit) d run.attempts total) (sym same) weigh) in
    let ticks = ticked run total is_run weighs in
    (omega (arith, started.0, ticks.0), omega (arith, started.1, ticks.1))

-- the start, and then the orders of a script
pub rewind_ticked : (made : Rewinding) (dna : List Base) (orders : List Order) (limit old mid new : ℕ) → made ≡ record { start = dna; limit = limit; attempt = 0; dna = dna; reached = 0 }
    → Ticks old mid (start_steps (length dna)) → TicksForScript (most_height made.limit) made orders mid new → RewindTicks dna orders limit old new
rewind_ticked made dna orders limit old mid new is started ticked = λ total weigh.
    let ticks = ticked total (subst (λ (r : Rewinding). ScriptWeighs (most_height r.limit) r.limit r.start orders r.attempt r.reached total) (sym is) weigh) in
    (omega (arith, started.0, ticks.0), omega (arith, started.1, ticks.1))

pub rewind_not_started : (dna : List Base) (orders : List Order) (limit old new : ℕ) → Ticks old new (start_steps (length dna)) → RewindTicks dna orders limit old new
rewind_not_started dna orders limit old new ticks = λ total weigh. (ticks.0, omega (arith, ticks.1))

-- no node was made
none_of_inputs : (inputs : Inputs) (old : ℕ) → InputsTick inputs old old
none_of_inputs (inputs.Run verb dna budget limit) old = λ run total is weigh. (omega arith, omega arith)
none_of_inputs (inputs.Trace dna budget limit) old = λ run total is weigh. (omega arith, omega arith)
none_of_inputs (inputs.Plain plain) old = refl
none_of_inputs (inputs.Listing dna count) old = (omega arith, omega arith)
none_of_inputs (inputs.Explain prefix len attempts limit) old = refl
none_of_inputs (inputs.Rewind dna orders limit) old = λ total weighs. (omega arith, omega arith)
none_of_inputs (inputs.Text verb text) old = refl
none_of_inputs (inputs.Bench seed size rounds) old = λ run total is weigh. (omega arith, omega arith)

none_of_reading : (known : Reading Inputs) (old : ℕ) → ReadingTicks known old old
none_of_reading None old = tt
none_of_reading (Some (Err status)) old = refl
none_of_reading (Some (Ok inputs)) old = none_of_inputs inputs old

pub none_ticked : (files : Files) (asked : Option Request) (old : ℕ) → CallTicks files asked old old
none_ticked files None old = refl
none_ticked files (Some asked) old = none_of_reading (inputs_of files (sorted asked)) old

-- inputs that were read
reading_ticked : (known : Reading Inputs) (inputs : Inputs) (old new : ℕ) → Agrees known (Ok inputs) → InputsTick inputs old new → ReadingTicks known old new
reading_ticked None inputs old new agrees ticks = tt
reading_ticked (Some (Err status)) inputs old new (inl e) ticks = absurd (cc e)
reading_ticked (Some (Err status)) inputs old new (inr (inl e)) ticks = absurd (cc e)
reading_ticked (Some (Err status)) inputs old new (inr (inr e)) ticks = absurd (cc e)
reading_ticked (Some (Ok known)) inputs old new (inl e) ticks = let same : inputs ≡ known = cc e in subst (λ i. InputsTick i old new) same ticks
reading_ticked (Some (Ok known)) inputs old new (inr (inl e)) ticks = absurd (cc e)
reading_ticked (Some (Ok known)) inputs old new (inr (inr e)) ticks = absurd (cc e)

pub call_ticked : (files : Files) (found : Option Request) (request : Request) (asked : Asked) (inputs : Inputs) (old new : ℕ) → found ≡ Some request → asked ≡ sorted request
    → Agrees (inputs_of files asked) (Ok inputs) → InputsTick inputs old new → CallTicks files found old new
call_ticked files found request asked inputs old new taken is agrees ticks =
    let here : ReadingTicks (inputs_of files (sorted request)) old new = subst (λ a. ReadingTicks (inputs_of files a) old new) is (reading_ticked _ inputs old new agrees ticks) in
    subst (λ f. CallTicks files f old new) (sym taken) here
