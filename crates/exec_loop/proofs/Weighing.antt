-- Each attempt has one weight, and so have attempts together.
use Rattle.std.proofs.Common.{◌≡◌, ℕ, ◌+◌, ◌*◌, ◌≤◌, Some, List, [], ◌∷◌, ◌++◌, length, arith, refl, sym, ap, subst, ◌∙◌}
use Rattle.std.proofs.lemmas.Option.{none-some, same_Some}
use Rattle.std.proofs.Math.Nat.{add-mul}
use Rattle.fuun_base.specs.declared.letters.Base.{Base}
use Rattle.replacer.specs.Replacement.{texts_of}
use Rattle.replacer.specs.Weight.{weight, quoted_bases}
use Rattle.exec_loop.specs.declared.machine.RunEnd.{RunEnd}
use Rattle.exec_loop.specs.declared.machine.RunEnd.TheVariants as end
use Rattle.exec_loop.specs.Attempt.{Ending, Matched, NoMatch, TooLong, Finished, Attempt, Rewrites, EndsBy, IsAttempt, next_dna}
use Rattle.exec_loop.specs.Run.{Leads, Run, StopsAt, RunsTo, IsRun}
use Rattle.exec_loop.specs.Made.{dna_behind}
use Rattle.exec_loop.specs.Weights.{WeighsBy, Weighs, WeighTogether}
use Rattle.exec_loop.proofs.Attempts.{same_groups}

-- an attempt

weighs_by : (height : ℕ) (d : List Base) (limit : ℕ) (attempt : Attempt) (ending : Ending) → EndsBy d limit attempt ending → (number : ℕ) × WeighsBy height d attempt ending number
weighs_by height d limit attempt (Matched stop next) x =
    let rewrites : Rewrites d attempt stop next = x.0 in (weight (length attempt.template) (quoted_bases (texts_of rewrites.rest rewrites.groups) attempt.template) height, (rewrites, refl))
weighs_by height d limit attempt (NoMatch next) x = (weight (length attempt.template) 0 height, refl)
weighs_by height d limit attempt TooLong x = (weight (length attempt.template) 0 height, refl)
weighs_by height d limit attempt Finished x = (weight (length attempt.template) 0 height, refl)

pub has_weight : (height : ℕ) (d : List Base) (limit : ℕ) (attempt : Attempt) → IsAttempt d limit attempt → (number : ℕ) × Weighs height d attempt number
has_weight height d limit attempt is = weighs_by height d limit attempt attempt.ending is

one_weight_by : (height : ℕ) (d : List Base) (attempt : Attempt) (ending : Ending) (m n : ℕ) → WeighsBy height d attempt ending m → WeighsBy height d attempt ending n → m ≡ n
one_weight_by height d attempt (Matched stop next) m n x y =
    x.1 ∙ ap (λ texts. weight (length attempt.template) (quoted_bases texts attempt.template) height) (same_groups d attempt stop next x.0 y.0) ∙ sym y.1
one_weight_by height d attempt (NoMatch next) m n x y = x ∙ sym y
one_weight_by height d attempt TooLong m n x y = x ∙ sym y
one_weight_by height d attempt Finished m n x y = x ∙ sym y

pub one_weight : (height : ℕ) (d : List Base) (attempt : Attempt) (m n : ℕ) → Weighs height d attempt m → Weighs height d attempt n → m ≡ n
one_weight height d attempt m n x y = one_weight_by height d attempt attempt.ending m n x y

-- every weight has room for one cut
cut_within : (items quoted height : ℕ) → 64 * (height + 1) ≤ weight items quoted height
cut_within items quoted height =
    let more : (items + 2) * (height + 2) ≡ items * (height + 2) + 2 * (height + 2) = add-mul items 2 (height + 2) in
    let factor : 128 * (items + 2) * (height + 2) ≡ 128 * ((items + 2) * (height + 2)) = omega arith in
    omega arith

cut_weighs_by : (height : ℕ) (d : List Base) (attempt : Attempt) (ending : Ending) (number : ℕ) → WeighsBy height d attempt ending number → 64 * (height + 1) ≤ number
cut_weighs_by height d attempt (Matched stop next) number x =
    let rewrites : Rewrites d attempt stop next = x.0 in
    omega (arith, x.1, cut_within (length attempt.template) (quoted_bases (texts_of rewrites.rest rewrites.groups) attempt.template) height)
cut_weighs_by height d attempt (NoMatch next) number x = omega (arith, x, cut_within (length attempt.template) 0 height)
cut_weighs_by height d attempt TooLong number x = omega (arith, x, cut_within (length attempt.template) 0 height)
cut_weighs_by height d attempt Finished number x = omega (arith, x, cut_within (length attempt.template) 0 height)

pub cut_weighs : (height : ℕ) (d : List Base) (attempt : Attempt) (number : ℕ) → Weighs height d attempt number → 64 * (height + 1) ≤ number
cut_weighs height d attempt number x = cut_weighs_by height d attempt attempt.ending number x

-- attempts together

behind_by : (d : List Base) (ending : Ending) (next : List Base) → next_dna ending ≡ Some next → dna_behind d ending ≡ next
behind_by d (Matched stop dna) next goes = same_Some dna next goes
behind_by d (NoMatch dna) next goes = same_Some dna next goes
behind_by d TooLong next goes = absurd (none-some next goes)
behind_by d Finished next goes = absurd (none-some next goes)

pub one_total : (height : ℕ) (d : List Base) (attempts : List Attempt) (m n : ℕ) → WeighTogether height d attempts m → WeighTogether height d attempts n → m ≡ n
one_total height d [] m n x y = x ∙ sym y
one_total height d (attempt ∷ attempts) m n x y =
    let first : x.0 ≡ y.0 = one_weight height d attempt x.0 y.0 x.2 y.2 in
    let rest : x.1 ≡ y.1 = one_total height (dna_behind d attempt.ending) attempts x.1 y.1 x.3 y.3 in
    x.4 ∙ ap (λ n. n + x.1) first ∙ ap (λ n. y.0 + n) rest ∙ sym y.4

-- one attempt more, on the DNA that the others lead to
pub weigh_more : (height limit : ℕ) (d : List Base) (attempts : List Attempt) (before : List Base) (attempt : Attempt) (total number : ℕ)
    → Leads limit d attempts before → WeighTogether height d attempts total → Weighs height before attempt number → WeighTogether height d (attempts ++ attempt ∷ []) (total + number)
weigh_more height limit d [] before attempt total number leads x y =
    (number, 0, subst (λ e. Weighs height e attempt number) (sym leads) y, refl, omega (arith, x))
weigh_more height limit d (first ∷ attempts) before attempt total number leads x y =
    let behind : dna_behind d first.ending ≡ leads.1.0 = behind_by d first.ending leads.1.0 leads.1.1 in
    let rest : WeighTogether height leads.1.0 attempts x.1 = subst (λ e. WeighTogether height e attempts x.1) behind x.3 in
    let more : WeighTogether height leads.1.0 (attempts ++ attempt ∷ []) (x.1 + number) = weigh_more height limit leads.1.0 attempts before attempt x.1 number leads.1.2 rest y in
    (x.0, x.1 + number, x.2, subst (λ e. WeighTogether height e (attempts ++ attempt ∷ []) (x.1 + number)) (sym behind) more, omega (arith, x.4))

-- a front of attempts weighs no more than all
pub front_weighs : (height : ℕ) (d : List Base) (front left : List Attempt) (part total : ℕ) → WeighTogether height d front part → WeighTogether height d (front ++ left) total → part ≤ total
front_weighs height d [] left part total x y = omega (arith, x)
front_weighs height d (attempt ∷ front) left part total x y =
    let first : x.0 ≡ y.0 = one_weight height d attempt x.0 y.0 x.2 y.2 in
    let rest : x.1 ≤ y.1 = front_weighs height (dna_behind d attempt.ending) front left x.1 y.1 x.3 y.3 in
    omega (arith, x.4, y.4)

-- a chain of attempts has a weight
pub chain_weighs : (height limit : ℕ) (d : List Base) (attempts : List Attempt) (last : List Base) → Leads limit d attempts last → (total : ℕ) × WeighTogether height d attempts total
chain_weighs height limit d [] last leads = (0, refl)
chain_weighs height limit d (attempt ∷ attempts) last leads =
    let behind : dna_behind d attempt.ending ≡ leads.1.0 = behind_by d attempt.ending leads.1.0 leads.1.1 in
    let first : (number : ℕ) × Weighs height d attempt number = has_weight height d limit attempt leads.0 in
    let rest : (total : ℕ) × WeighTogether height leads.1.0 attempts total = chain_weighs height limit leads.1.0 attempts last leads.1.2 in
    (first.0 + rest.0, (first.0, rest.0, first.1, subst (λ e. WeighTogether height e attempts rest.0) (sym behind) rest.1, refl))

stop_weighs : (height budget limit : ℕ) (d : List Base) (run : Run) (ending : Ending) (before : ℕ) → StopsAt d budget limit run ending before → (total : ℕ) × WeighTogether height d run.attempts total
stop_weighs height budget limit d run ending before x =
    let earlier : (total : ℕ) × WeighTogether height d x.earlier total = chain_weighs height limit d x.earlier run.dna x.leads in
    let last : (number : ℕ) × Weighs height run.dna x.last number = has_weight height run.dna limit x.last x.attempt in
    (earlier.0 + last.0, subst (λ l. WeighTogether height d l (earlier.0 + last.0)) (sym x.made) (weigh_more height limit d x.earlier run.dna x.last earlier.0 last.0 x.leads earlier.1 last.1))

run_weighs_by : (height budget limit : ℕ) (d : List Base) (run : Run) (end : RunEnd) → RunsTo d budget limit run end → (total : ℕ) × WeighTogether height d run.attempts total
run_weighs_by height budget limit d run (end.Finished attempts) x = stop_weighs height budget limit d run Finished x.0 x.2
run_weighs_by height budget limit d run end.Budget x = chain_weighs height limit d run.attempts run.dna x.leads
run_weighs_by height budget limit d run (end.TooLong attempt) x = stop_weighs height budget limit d run TooLong attempt x

pub run_weighs : (height budget limit : ℕ) (d : List Base) (run : Run) → IsRun d budget limit run → (total : ℕ) × WeighTogether height d run.attempts total
run_weighs height budget limit d run is = run_weighs_by height budget limit d run run.end is
