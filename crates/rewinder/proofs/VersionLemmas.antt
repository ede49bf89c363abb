-- Versions, and the attempts between them.
use Rattle.std.proofs.Common.{◌≡◌, ℕ, zero, suc, ◌+◌, ◌≤◌, Some, None, List, [], ◌∷◌, ◌++◌, length, arith, refl, sym, ap, subst, ◌∙◌, length-append}
use Rattle.std.proofs.lemmas.Option.{none-some, same_Some}
use Rattle.fuun_base.specs.declared.letters.Base.{Base}
use Rattle.fuun_base.specs.Ticks.{Ticks}
use Rattle.exec_loop.specs.Attempt.{Attempt, Ending, Matched, NoMatch, TooLong, Finished, IsAttempt, next_dna}
use Rattle.exec_loop.specs.Made.{dna_behind}
use Rattle.exec_loop.specs.Run.{Leads}
use Rattle.exec_loop.specs.Weights.{WeighTogether, TicksFor}
use Rattle.exec_loop.proofs.AttemptByAttempt.{leads_more}
use Rattle.exec_loop.proofs.Attempts.{one_attempt}
use Rattle.exec_loop.proofs.Weighing.{front_weighs}
use Rattle.rewinder.specs.Versions.{IsVersion, IsEnd}

pub behind_by : (d : List Base) (ending : Ending) (next : List Base) → next_dna ending ≡ Some next → dna_behind d ending ≡ next
behind_by d (Matched stop dna) next goes = same_Some dna next goes
behind_by d (NoMatch dna) next goes = same_Some dna next goes
behind_by d TooLong next goes = absurd (none-some next goes)
behind_by d Finished next goes = absurd (none-some next goes)

-- the version at the start
pub first_version : (limit : ℕ) (start : List Base) → IsVersion limit start 0 start
first_version limit start = record { attempts = []; leads = refl; count = refl }

-- one version more
pub version_more : (limit : ℕ) (start : List Base) (number : ℕ) (dna : List Base) (attempt : Attempt) (next : List Base) → IsVersion limit start number dna → IsAttempt dna limit attempt → next_dna attempt.ending ≡ Some next
    → IsVersion limit start (number + 1) next
version_more limit start number dna attempt next x is goes = record {
  attempts = x.attempts ++ attempt ∷ [];
  leads = leads_more limit start x.attempts dna attempt next x.leads is goes;
  count = omega (arith, length-append x.attempts (attempt ∷ []), x.count);
}

-- chains of attempts, one behind the other
pub leads_behind : (limit : ℕ) (d : List Base) (first : List Attempt) (middle : List Base) (second : List Attempt) (last : List Base) → Leads limit d first middle → Leads limit middle second last → Leads limit d (first ++ second) last
leads_behind limit d [] middle second last x y = subst (λ e. Leads limit e second last) (sym x) y
leads_behind limit d (attempt ∷ first) middle second last x y = (x.0, (x.1.0, x.1.1, leads_behind limit x.1.0 first middle second last x.1.2 y))

pub version_behind : (limit : ℕ) (start : List Base) (number count : ℕ) (dna : List Base) (attempts : List Attempt) (last : List Base) → IsVersion limit start number dna → Leads limit dna attempts last → length attempts ≡ count
    → IsVersion limit start (number + count) last
version_behind limit start number count dna attempts last x leads is = record {
  attempts = x.attempts ++ attempts;
  leads = leads_behind limit start x.attempts dna attempts last x.leads leads;
  count = omega (arith, length-append x.attempts attempts, x.count, is);
}

-- two chains of one length lead to one DNA
pub one_chain : (limit : ℕ) (d : List Base) (xs ys : List Attempt) (a b : List Base) → Leads limit d xs a → Leads limit d ys b → length xs ≡ length ys → a ≡ b
one_chain limit d [] [] a b x y same = sym x ∙ y
one_chain limit d [] (t ∷ ys) a b x y same = absurd (omega (arith, same))
one_chain limit d (s ∷ xs) [] a b x y same = absurd (omega (arith, same))
one_chain limit d (s ∷ xs) (t ∷ ys) a b x y same =
    let attempts : s ≡ t = one_attempt d limit s t x.0 y.0 in
    let nexts : x.1.0 ≡ y.1.0 = same_Some x.1.0 y.1.0 (sym x.1.1 ∙ ap (λ (z : Attempt). next_dna z.ending) attempts ∙ y.1.1) in
    one_chain limit x.1.0 xs ys a b x.1.2 (subst (λ e. Leads limit e ys b) (sym nexts) y.1.2) (let h : suc (length xs) ≡ suc (length ys) = same in omega arith)

pub version_is_one : (limit : ℕ) (start : List Base) (number : ℕ) (a b : List Base) → IsVersion limit start number a → IsVersion limit start number b → a ≡ b
version_is_one limit start number a b x y = one_chain limit start x.attempts y.attempts a b x.leads y.leads (x.count ∙ sym y.count)

-- no chain is longer than one behind which an attempt gives no next DNA
chain_within : (limit : ℕ) (d : List Base) (xs ys : List Attempt) (a b : List Base) (attempt : Attempt) → Leads limit d xs a → Leads limit d ys b → IsAttempt b limit attempt → next_dna attempt.ending ≡ None → length xs ≤ length ys
chain_within limit d [] ys a b attempt x y is none = omega arith
chain_within limit d (s ∷ xs) [] a b attempt x y is none =
    let here : IsAttempt d limit attempt = subst (λ e. IsAttempt e limit attempt) (sym y) is in
    let same : s ≡ attempt = one_attempt d limit s attempt x.0 here in
    absurd (none-some x.1.0 (sym none ∙ ap (λ (z : Attempt). next_dna z.ending) (sym same) ∙ x.1.1))
chain_within limit d (s ∷ xs) (t ∷ ys) a b attempt x y is none =
    let attempts : s ≡ t = one_attempt d limit s t x.0 y.0 in
    let nexts : x.1.0 ≡ y.1.0 = same_Some x.1.0 y.1.0 (sym x.1.1 ∙ ap (λ (z : Attempt). next_dna z.ending) attempts ∙ y.1.1) in
    let rest : length xs ≤ length ys = chain_within limit x.1.0 xs ys a b attempt x.1.2 (subst (λ e. Leads limit e ys b) (sym nexts) y.1.2) is none in omega (arith, rest)

pub version_within : (limit : ℕ) (start : List Base) (number end : ℕ) (dna : List Base) → IsVersion limit start number dna → IsEnd limit start end → number ≤ end
version_within limit start number end dna x e =
    let within : length x.attempts ≤ length e.version.attempts = chain_within limit start x.attempts e.version.attempts dna e.dna e.attempt x.leads e.version.leads e.is e.none in
    omega (arith, within, x.count, e.version.count)

-- attempts each of which is made on the DNA behind the one before
abbrev pub Follow : ℕ → List Base → List Attempt → Type 0
Follow limit d [] = Unit {0}
Follow limit d (attempt ∷ attempts) = IsAttempt d limit attempt × Follow limit (dna_behind d attempt.ending) attempts

pub follow_chain : (limit : ℕ) (d : List Base) (attempts more : List Attempt) (last : List Base) → Leads limit d attempts last → Follow limit last more → Follow limit d (attempts ++ more)
follow_chain limit d [] more last x y = subst (λ e. Follow limit e more) (sym x) y
follow_chain limit d (attempt ∷ attempts) more last x y =
    let behind : dna_behind d attempt.ending ≡ x.1.0 = behind_by d attempt.ending x.1.0 x.1.1 in
    (x.0, subst (λ e. Follow limit e (attempts ++ more)) (sym behind) (follow_chain limit x.1.0 attempts more last x.1.2 y))

-- fewer such attempts are the first of more of them
pub front_of : (limit : ℕ) (d : List Base) (xs ys : List Attempt) → Follow limit d xs → Follow limit d ys → length xs ≤ length ys → (left : List Attempt) × (ys ≡ xs ++ left)
front_of limit d [] ys x y few = (ys, refl)
front_of limit d (s ∷ xs) [] x y few = absurd (omega (arith, few))
front_of limit d (s ∷ xs) (t ∷ ys) x y few =
    let same : s ≡ t = one_attempt d limit s t x.0 y.0 in
    let there : Follow limit (dna_behind d s.ending) ys = subst (λ (z : Attempt). Follow limit (dna_behind d z.ending) ys) (sym same) y.1 in
    let rest : (left : List Attempt) × (ys ≡ xs ++ left) = front_of limit (dna_behind d s.ending) xs ys x.1 there (let h : suc (length xs) ≤ suc (length ys) = few in omega arith) in
    (rest.0, ap (λ z. z ∷ ys) (sym same) ∙ ap (λ l. s ∷ l) rest.1)

-- what the first of them may tick is within what all of them weigh
pub ticks_within : (height limit : ℕ) (d : List Base) (xs ys : List Attempt) (total old new : ℕ) → Follow limit d xs → Follow limit d ys → length xs ≤ length ys → TicksFor height d xs old new → WeighTogether height d ys total → Ticks old new total
ticks_within height limit d xs ys total old new x y few ticks weigh =
    let front : (left : List Attempt) × (ys ≡ xs ++ left) = front_of limit d xs ys x y few in
    let within : ticks.total ≤ total = front_weighs height d xs front.0 ticks.total total ticks.weigh (subst (λ l. WeighTogether height d l total) front.1 weigh) in
    let grows : old ≤ new = ticks.ticks.0 in
    let most : new ≤ old + ticks.total = ticks.ticks.1 in (grows, omega arith)

-- a chain in two, behind so many attempts
pub record Halves (limit : ℕ) (d : List Base) (attempts : List Attempt) (last : List Base) (count : ℕ) : Type 0 where
  pub first : List Attempt
  pub middle : List Base
  pub second : List Attempt
  pub before : Leads limit d first middle
  pub behind : Leads limit middle second last
  pub first_count : length first ≡ count
  pub all : length first + length second ≡ length attempts

pub halves : (limit : ℕ) (d : List Base) (attempts : List Attempt) (last : List Base) (count : ℕ) → Leads limit d attempts last → count ≤ length attempts → Halves limit d attempts last count
halves limit d attempts last zero leads few = record { first = []; middle = d; second = attempts; before = refl; behind = leads; first_count = refl; all = omega arith }
halves limit d [] last (suc count) leads few = absurd (omega (arith, few))
halves limit d (attempt ∷ attempts) last (suc count) leads few =
    let rest : Halves limit leads.1.0 attempts last count = halves limit leads.1.0 attempts last count leads.1.2 (let h : suc count ≤ suc (length attempts) = few in omega arith) in
    record {
      first = attempt ∷ rest.first;
      middle = rest.middle;
      second = rest.second;
      before = (leads.0, (leads.1.0, leads.1.1, rest.before));
      behind = rest.behind;
      first_count = ap suc rest.first_count;
      all = let h = rest.all in omega arith;
    }

-- the version of a lesser number, and the attempts behind it
pub record EarlierVersion (limit : ℕ) (start : List Base) (number : ℕ) (last : List Base) (earlier : ℕ) : Type 0 where
  pub dna : List Base
  pub version : IsVersion limit start earlier dna
  pub attempts : List Attempt
  pub leads : Leads limit dna attempts last
  pub count : earlier + length attempts ≡ number

pub earlier_version : (limit : ℕ) (start : List Base) (number : ℕ) (last : List Base) (earlier : ℕ) → IsVersion limit start number last → earlier ≤ number → EarlierVersion limit start number last earlier
earlier_version limit start number last earlier x few =
    let parts : Halves limit start x.attempts last earlier = halves limit start x.attempts last earlier x.leads (omega (arith, few, x.count)) in
    record {
      dna = parts.middle;
      version = record { attempts = parts.first; leads = parts.before; count = parts.first_count };
      attempts = parts.second;
      leads = parts.behind;
      count = omega (arith, parts.all, parts.first_count, x.count);
    }
