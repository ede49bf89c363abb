-- From the parts of an attempt to the whole.
use Rattle.std.proofs.Common.{◌≡◌, ℕ, ◌+◌, ◌*◌, ◌-◌, ◌^◌, ◌≤◌, Option, Some, None, List, [], ◌++◌, length, drop, arith, refl, sym, ap, subst, ◌∙◌, append-nil}
use Rattle.std.specs.Prelude.{unwrap_or, Result, Ok, Err, IfOk, OnErr}
use Rattle.std.specs.Option.{option_map}
use Rattle.std.proofs.lemmas.List.{length-map}
use Rattle.fuun_base.specs.declared.letters.Base.{Base}
use Rattle.dna_items.specs.declared.items.PatItem.{PatItem}
use Rattle.dna_items.specs.declared.items.TplItem.{TplItem}
use Rattle.dna_items.specs.Held.{held_pattern_item, held_pattern, held_template}
use Rattle.dna_reader.specs.Pairs.{ByPair, PairIsRead, PairRanOut, StandsWithinPair}
use Rattle.matcher.specs.Found.{MatchesAt}
use Rattle.replacer.specs.Replacement.{texts_of, replaced}
use Rattle.replacer.specs.Weight.{weight, quoted_bases}
use Rattle.exec_loop.specs.declared.machine.Outcome.{Outcome}
use Rattle.exec_loop.specs.declared.machine.Outcome.TheVariants as outcome
use Rattle.exec_loop.specs.declared.machine.Report.{Report}
use Rattle.exec_loop.specs.declared.machine.StepError.{StepError}
use Rattle.exec_loop.specs.Attempt.{Finished}
use Rattle.exec_loop.specs.State.{State, IsLimited}
use Rattle.exec_loop.specs.Made.{MakesAttempt, StandsWithinAttempt}
use Rattle.exec_loop.specs.Rewriting.{ComesTo, ComesToState, ItemsTick, ByCut, ByMatch}
use Rattle.exec_loop.specs.Weights.{Weighs, TicksForAttempt}
use Rattle.exec_loop.proofs.Attempts.{AttemptOf, attempt_of_pair, one_attempt}
use Rattle.exec_loop.proofs.Lifting.{IsLifted, lifted, behind_is, matched_weighs}
use Rattle.exec_loop.proofs.Weighing.{one_weight, cut_weighs}

pub on_err : {T E : Type 0} (r : Result T E) (P : Type 0) → P → OnErr r P
on_err (Ok x) P p = tt
on_err (Err e) P p = p

-- laws of takers, as they are cited here

abbrev pub GoesOn : {Taker : Type 0} → (Taker → List (List Base) → Taker → Type 0) → Type 0
GoesOn {Taker} follows = (a b c : Taker) (x y : List (List Base)) → follows a x b → follows b y c → follows a (x ++ y) c

abbrev pub Starts : {Taker : Type 0} → (Taker → List (List Base) → Taker → Type 0) → (Taker → List (List Base) → Taker → Type 0) → Type 0
Starts {Taker} follows within = (a b : Taker) (x y : List (List Base)) → follows a x b → within a (x ++ y) b

abbrev pub GoesWithin : {Taker : Type 0} → (Taker → List (List Base) → Taker → Type 0) → (Taker → List (List Base) → Taker → Type 0) → Type 0
GoesWithin {Taker} follows within = (a b c : Taker) (x y : List (List Base)) → follows a x b → within b y c → within a (x ++ y) c

abbrev pub Widens : {Taker : Type 0} → (Taker → List (List Base) → Taker → Type 0) → Type 0
Widens {Taker} within = (a b : Taker) (x y : List (List Base)) → within a x b → within a (x ++ y) b

abbrev state : List Base → ℕ → State
state d limit = record { dna = d; limit = limit }

module _ {Taker : Type 0} (follows within : Taker → List (List Base) → Taker → Type 0) (d : List Base) (limit : ℕ) where
  -- the readings broke off
  pub within_pair : (old new : Taker) → StandsWithinPair within old new d 0 → StandsWithinAttempt within old new (state d limit)
  within_pair old new x =
      let made : AttemptOf d limit x.rna = attempt_of_pair d limit x.rna x.gives in
      record { attempt = made.attempt; is = made.is; stands = subst (λ l. within old l new) (sym made.gives) x.stands }

  -- the pair was read
  pub within_both : Starts follows within → (old new : Taker) (pattern : List PatItem) (template : List TplItem) (next : ℕ)
      → PairIsRead follows old new d 0 pattern template next → StandsWithinAttempt within old new (state d limit)
  within_both starts old new pattern template next x =
      within_pair old new (record {
        rna = x.rna;
        gives = ByPair x.items x.puts (drop next d) x.stands;
        stands = subst (λ l. within old l new) (append-nil x.rna) (starts old new x.rna [] x.taken);
      })

  pub makes_attempt : (old new : Taker) (after : State) (report : Report) (pattern : List PatItem) (template : List TplItem) (place : ℕ)
      → length d ≤ 2 ^ 41 → limit ≤ 2 ^ 40 → length pattern ≤ length d
      → PairIsRead follows old new d 0 pattern template place → ComesToState (state d limit) after place pattern template report.outcome
      → report.pattern ≡ pattern → report.template ≡ template
      → MakesAttempt follows old new (state d limit) after report
  makes_attempt old new after report pattern template place small most few x y pattern_is template_is =
      let number : length pattern ≡ length x.items = ap length x.pattern_held ∙ length-map x.items held_pattern_item in
      let comes : ComesTo d place limit (held_pattern x.items) (held_template x.puts) report.outcome y.next =
      subst (λ p. ComesTo d place limit p (held_template x.puts) report.outcome y.next) x.pattern_held
      (subst (λ t. ComesTo d place limit pattern t report.outcome y.next) x.template_held y.comes) in
      let made : IsLifted d limit x.items x.puts x.rna report.outcome y.next =
      lifted d x.items x.puts x.rna place x.stands (omega arith) (omega arith) limit report.outcome y.next most comes in
      record {
        attempt = made.attempt;
        is = made.is;
        pattern = pattern_is ∙ x.pattern_held ∙ ap held_pattern (sym made.pattern);
        template = template_is ∙ x.template_held ∙ ap held_template (sym made.template);
        outcome = made.reported;
        dna = y.dna ∙ ap (λ o. unwrap_or o d) made.behind ∙ behind_is d made.attempt.ending;
        taken = subst (λ l. follows old l new) (sym made.gives) x.taken;
      }

  pub makes_last_attempt : (old new : Taker) (report : Report) → PairRanOut follows old new d 0
      → report.pattern ≡ [] → report.template ≡ [] → report.outcome ≡ outcome.Finished
      → MakesAttempt follows old new (state d limit) (state d limit) report
  makes_last_attempt old new report x pattern template outcome = record {
    attempt = record { pattern = []; template = []; rna = x.rna; ending = Finished };
    is = record { ran_out = x.ran_out; no_pattern = refl; no_template = refl };
    pattern = pattern;
    template = template;
    outcome = outcome;
    dna = refl;
    taken = x.taken;
  }

module _ {S : Type 0} (bases : S → List Base) (old new : State) (d : List Base) (limit place : ℕ) (pattern : List PatItem) (template : List TplItem) (outcome : Outcome) (next : Option S) (was : old ≡ state d limit)
    (comes : ComesTo d place limit pattern template outcome (option_map bases next)) where
  comes_to : ComesTo old.dna place old.limit pattern template outcome (option_map bases next)
  comes_to = subst (λ (s : State). ComesTo s.dna place s.limit pattern template outcome (option_map bases next)) (sym was) comes

  -- the next DNA was put in the place of the old one
  pub next_is_put : (dna : S) (after : ℕ) → next ≡ Some dna → new ≡ state (bases dna) after → ComesToState old new place pattern template outcome
  next_is_put dna after some is = record {
    next = option_map bases next;
    comes = comes_to;
    dna = ap (λ (s : State). s.dna) is ∙ sym (ap (λ o. unwrap_or (option_map bases o) old.dna) some);
  }

  -- there is no next DNA
  pub dna_stays : next ≡ None → new ≡ old → ComesToState old new place pattern template outcome
  dna_stays none is = record {
    next = option_map bases next;
    comes = comes_to;
    dna = ap (λ (s : State). s.dna) is ∙ sym (ap (λ o. unwrap_or (option_map bases o) old.dna) none);
  }

module _ {Taker : Type 0} (follows within : Taker → List (List Base) → Taker → Type 0) (before after : State) (d : List Base) (is : before.dna ≡ d) (limited : IsLimited before) (old new : Taker) where
  pub step_ok : (pattern : List PatItem) (template : List TplItem) (place : ℕ) (result : Result Report StepError)
      → PairIsRead follows old new d 0 pattern template place → length pattern ≤ length d
      → IfOk result (λ report. ComesToState before after place pattern template report.outcome)
      → IfOk result (λ report. report.pattern ≡ pattern) → IfOk result (λ report. report.template ≡ template)
      → IfOk result (λ report. MakesAttempt follows old new before after report)
  step_ok pattern template place (Ok report) read few comes pattern_is template_is =
      let fits = limited.within in let most = limited.most in
      let same : length before.dna ≡ length d = ap length is in
      makes_attempt follows within before.dna before.limit old new after report pattern template place (omega arith) (omega arith) (omega arith)
      (subst (λ e. PairIsRead follows old new e 0 pattern template place) (sym is) read) comes pattern_is template_is
  step_ok pattern template place (Err e) read few comes pattern_is template_is = tt

  pub step_last : (report : Report) → PairRanOut follows old new d 0 → report.pattern ≡ [] → report.template ≡ [] → report.outcome ≡ outcome.Finished
      → MakesAttempt follows old new before before report
  step_last report ran_out pattern template outcome =
      makes_last_attempt follows within before.dna before.limit old new report (subst (λ e. PairRanOut follows old new e 0) (sym is) ran_out) pattern template outcome

  pub step_part : Starts follows within → (pattern : List PatItem) (template : List TplItem) (place : ℕ) → PairIsRead follows old new d 0 pattern template place → StandsWithinAttempt within old new before
  step_part starts pattern template place read =
      within_both follows within before.dna before.limit starts old new pattern template place (subst (λ e. PairIsRead follows old new e 0 pattern template place) (sym is) read)

  pub step_broke : StandsWithinPair within old new d 0 → StandsWithinAttempt within old new before
  step_broke part = within_pair follows within before.dna before.limit old new (subst (λ e. StandsWithinPair within old new e 0) (sym is) part)

pub put_fits : (limit len : ℕ) (next made : List Base) → next ≡ made → len ≡ length made → len ≤ limit → length next ≤ limit
put_fits limit len next made is number within = omega (arith, ap length is)

-- the steps that come of the items are within what the attempt weighs
pub step_ticks : {Taker : Type 0} (follows : Taker → List (List Base) → Taker → Type 0) (height : ℕ) (before : State) (d : List Base) → before.dna ≡ d → IsLimited before
    → (old new : Taker) (pattern : List PatItem) (template : List TplItem) (place : ℕ) (old_steps new_steps : ℕ)
    → PairIsRead follows old new d 0 pattern template place → length pattern ≤ length d
    → ItemsTick before.dna place before.limit pattern template height old_steps new_steps
    → TicksForAttempt height before old_steps new_steps
step_ticks follows height before d is limited old new pattern template place old_steps new_steps read few (ByCut ticks) attempt number made weighs =
    let within = cut_weighs height before.dna attempt number weighs in
    let grows : old_steps ≤ new_steps = ticks.0 in
    let most : new_steps ≤ old_steps + 64 * (height + 1) = ticks.1 in (grows, omega arith)
step_ticks follows height before d is limited old new pattern template place old_steps new_steps read few (ByMatch stop groups matches within ticks) attempt number made weighs =
    let fits = limited.within in let most = limited.most in
    let same : length before.dna ≡ length d = ap length is in
    let x : PairIsRead follows old new before.dna 0 pattern template place = subst (λ e. PairIsRead follows old new e 0 pattern template place) (sym is) read in
    let count : length pattern ≡ length x.items = ap length x.pattern_held ∙ length-map x.items held_pattern_item in
    let found : MatchesAt before.dna place (held_pattern x.items) stop groups = subst (λ p. MatchesAt before.dna place p stop groups) x.pattern_held matches in
    let short : length (replaced before.dna (held_template x.puts) groups stop) ≤ before.limit = subst (λ t. length (replaced before.dna t groups stop) ≤ before.limit) x.template_held within in
    let w = matched_weighs before.dna x.items x.puts x.rna place x.stands (omega arith) (omega arith) before.limit height stop groups most found short in
    let quoted : List TplItem → ℕ = λ t. weight (length t) (quoted_bases (texts_of before.dna groups) t) height in
    let one : attempt ≡ w.0 = one_attempt before.dna before.limit attempt w.0 made w.1 in
    let number_is : number ≡ quoted template =
    one_weight height before.dna w.0 number (quoted (held_template x.puts)) (subst (λ a. Weighs height before.dna a number) one weighs) w.2 ∙ ap quoted (sym x.template_held) in
    let grows : old_steps ≤ new_steps = ticks.0 in
    let bound : new_steps ≤ old_steps + (quoted template - 64 * (height + 1)) = ticks.1 in (grows, omega arith)

pub ticks_there : (bound : ℕ → ℕ) (old : State) (d : List Base) (limit place : ℕ) (pattern : List PatItem) (template : List TplItem) (old_steps new_steps : ℕ) → old ≡ state d limit
    → ItemsTick d place limit pattern template (bound limit) old_steps new_steps → ItemsTick old.dna place old.limit pattern template (bound old.limit) old_steps new_steps
ticks_there bound old d limit place pattern template old_steps new_steps is ticks =
    subst (λ (s : State). ItemsTick s.dna place s.limit pattern template (bound s.limit) old_steps new_steps) (sym is) ticks
