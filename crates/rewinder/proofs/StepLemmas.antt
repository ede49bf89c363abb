-- A step over the versions that are kept.
use Rattle.std.proofs.Common.{◌≡◌, inl, inr, ℕ, ◌+◌, ◌-◌, ◌<◌, ◌≤◌, Option, Some, None, IfSome, List, [], ◌++◌, length, arith, refl, sym, ap, subst, ◌∙◌, length-append}
use Rattle.std.specs.Prelude.{min}
use Rattle.std.proofs.lemmas.Bool.{cases_lt}
use Rattle.fuun_base.specs.declared.letters.Base.{Base}
use Rattle.exec_loop.specs.Attempt.{Attempt}
use Rattle.exec_loop.specs.Weights.{TicksFor}
use Rattle.rewinder.specs.declared.orders.Stop.{Stop}
use Rattle.rewinder.specs.declared.orders.Stop.TheVariants.{Limit, Finish, TooLong}
use Rattle.rewinder.specs.Versions.{most_attempts, IsVersion}
use Rattle.rewinder.specs.Places.{StopsBy, IsNearest}
use Rattle.rewinder.specs.Rewinding.{IsRewinding, IsRefused}
use Rattle.rewinder.specs.Weights.{AreBetween, LastTried, StepTicks, FailedTicks}
use Rattle.rewinder.specs.History.{History, version, reached, last_version, rewinding, EndsFor, IsHistory, Extends, Makes, Keeps, Reaches, There, Here, Short, FailsToReach, Comes}

-- the rewinder at a version that is kept
pub rewinding_at : (h : History) (attempt : ℕ) → IsHistory h → attempt < length h.kept → IsRewinding (rewinding h attempt)
rewinding_at h attempt x lt = record {
  some = x.some;
  most = x.most;
  version = x.is attempt lt;
  within = x.within attempt lt;
  behind = omega (arith, lt);
  few = x.few;
}

kept_version : (old new : History) (place : ℕ) → IsHistory old → IsHistory new → Keeps old new → place < length new.kept → IsVersion old.limit (version old 0) place (version new place)
kept_version old new place x y k lt =
    let first : version new 0 ≡ version old 0 = k.same 0 x.one in
    subst (λ d. IsVersion old.limit d place (version new place)) first (subst (λ n. IsVersion n (version new 0) place (version new place)) k.limit (y.is place lt))

between : (old new : History) (attempts : List Attempt) → IsHistory old → Extends old new attempts → AreBetween old.limit (version old 0) (reached old) (reached new) (last_version old) attempts (last_version new)
between old new attempts x e =
    let one : 0 < length old.kept = x.one in
    record {
      version = x.is (reached old) (omega (arith, one));
      leads = e.leads;
      count = omega (arith, one, ap length e.kept, length-append old.kept e.added, e.count);
    }

-- the last version is that which was asked for, or the greatest that there may be
record AtNumber (limit : ℕ) (dna last : List Base) (asked place : ℕ) (stop : Option Stop) : Type 0 where
  stops : StopsBy limit dna asked place stop
  tried : LastTried limit last stop []

at_number : (limit : ℕ) (dna last : List Base) (attempt count place : ℕ) (stop : Option Stop) → attempt ≤ most_attempts → place ≡ attempt + min count (most_attempts - attempt)
    → (count ≤ place - attempt → stop ≡ None) → (place - attempt < count → most_attempts ≤ place → stop ≡ Some Limit) → AtNumber limit dna last (attempt + count) place stop
at_number limit dna last attempt count place stop few is full limited =
    elim (cases_lt (place - attempt) count) [
      | inl short ↦
          let end : most_attempts ≤ place = omega (arith, short, is, few) in
          let at : place ≡ most_attempts = omega (arith, short, is, few) in
          let less : place < attempt + count = omega (arith, short, is, few) in
          subst (AtNumber limit dna last (attempt + count) place) (sym (limited short end)) (record { stops = (less, at); tried = refl })
      | inr all ↦
          let at : place ≡ attempt + count = omega (arith, all, is, few) in
          subst (AtNumber limit dna last (attempt + count) place) (sym (full all)) (record { stops = at; tried = refl })
    ]

-- the attempts ended before
stops_by_end : (limit : ℕ) (dna : List Base) (asked place : ℕ) (stop : Stop) → EndsFor limit dna stop → place < asked → place < most_attempts → StopsBy limit dna asked place (Some stop)
stops_by_end limit dna asked place Limit ends short few = absurd ends
stops_by_end limit dna asked place Finish ends short few = (short, few, ends)
stops_by_end limit dna asked place TooLong ends short few = (short, few, ends)

module _ (height : ℕ) (old new : History) (attempt count number place : ℕ) (stop : Option Stop) (a b : ℕ)
    (x : IsHistory old) (y : IsHistory new) (k : Keeps old new) (behind : attempt ≤ reached old) (number_is : number ≡ attempt + min count (most_attempts - attempt)) (place_is : place ≡ min number (reached new))
    (full : count ≤ place - attempt → stop ≡ None) (limited : place - attempt < count → most_attempts ≤ place → stop ≡ Some Limit) (known : place - attempt < count → place < most_attempts → stop ≡ new.stop) where
  few : attempt ≤ most_attempts
  few = let h : reached old ≤ most_attempts = x.few in omega (arith, h, behind)

  within : place < length new.kept
  within = let h : 0 < length new.kept = y.one in omega (arith, h, place_is)

  nearest : StopsBy old.limit (version new place) (attempt + count) place stop → IsNearest old.limit (version old 0) (attempt + count) place stop
  nearest stops = record {
    dna = version new place;
    version = kept_version old new place x y k within;
    most = let h : reached new ≤ most_attempts = y.few in omega (arith, h, place_is);
    stops = stops;
  }

  at_place : number ≤ reached new → AtNumber old.limit (version new place) (last_version new) (attempt + count) place stop
  at_place there = at_number old.limit (version new place) (last_version new) attempt count place stop few (let at : place ≡ number = omega (arith, there, place_is) in at ∙ number_is) full limited

  made : (makes : Makes height old new a b) (more : List Attempt) → StopsBy old.limit (version new place) (attempt + count) place stop → LastTried old.limit (last_version new) stop more → makes.more ≡ more
      → StepTicks height (rewinding old attempt) (rewinding new place) (attempt + count) a b
  made makes more stops tried same = record {
    stop = stop;
    nearest = nearest stops;
    first = last_version old;
    attempts = makes.attempts;
    last = last_version new;
    between = between old new makes.attempts x makes.extends;
    more = more;
    tried = tried;
    ticks = subst (λ l. TicksFor height (last_version old) (makes.attempts ++ l) a b) same makes.ticks;
  }

  pub comes : Reaches height old new number a b → Comes height old new attempt count place stop a b
  comes (There there same quiet) =
      let last : reached new ≡ reached old = ap reached same in
      let at : AtNumber old.limit (version new place) (last_version new) (attempt + count) place stop = at_place (omega (arith, there, last)) in
      let dnas : last_version old ≡ last_version new = ap last_version (sym same) in
      let steps : StepTicks height (rewinding old attempt) (rewinding new place) (attempt + count) a b = record {
        stop = stop;
        nearest = nearest at.stops;
        first = last_version old;
        attempts = [];
        last = last_version new;
        between = record { version = (let one : 0 < length old.kept = x.one in x.is (reached old) (omega (arith, one))); leads = dnas; count = omega (arith, last) };
        more = [];
        tried = at.tried;
        ticks = record { total = 0; weigh = refl; ticks = (omega (arith, quiet), omega (arith, quiet)) };
      } in
      record { nearest = nearest at.stops; grew = omega (arith, there, last, place_is); ticks = steps; quiet = λ _. quiet }
  comes (Here less makes none there) =
      let at : AtNumber old.limit (version new place) (last_version new) (attempt + count) place stop = at_place (omega (arith, there)) in
      let same : makes.more ≡ [] = subst (λ s. LastTried old.limit (last_version new) s makes.more) none makes.tried in
      record { nearest = nearest at.stops; grew = omega (arith, less, there, place_is); ticks = made makes [] at.stops at.tried same; quiet = λ past. absurd (omega (arith, past, less, number_is)) }
  comes (Short end makes some before) =
      let at : place ≡ reached new = omega (arith, before, place_is) in
      let short : place - attempt < count = omega (arith, at, before, number_is) in
      let under_most : place < most_attempts = omega (arith, at, before, number_is, few) in
      let less : place < attempt + count = omega (arith, at, before, number_is) in
      let reason : stop ≡ Some end = known short under_most ∙ some in
      let ends : EndsFor new.limit (last_version new) end = subst (λ s. IfSome s (EndsFor new.limit (last_version new))) some y.stops in
      let here : EndsFor old.limit (version new place) end = subst (λ n. EndsFor n (version new place) end) k.limit (subst (λ p. EndsFor new.limit (version new p) end) (sym at) ends) in
      let stops : StopsBy old.limit (version new place) (attempt + count) place stop = subst (StopsBy old.limit (version new place) (attempt + count) place) (sym reason) (stops_by_end old.limit (version new place) (attempt + count) place end here less under_most) in
      let tried : LastTried old.limit (last_version new) stop makes.more = subst (λ s. LastTried old.limit (last_version new) s makes.more) (some ∙ sym reason) makes.tried in
      let grown : length old.kept ≤ length new.kept = k.more in
      record { nearest = nearest stops; grew = omega (arith, at, grown); ticks = made makes makes.more stops tried refl; quiet = λ past. absurd (omega (arith, past, before, number_is, grown)) }

pub failed : (height : ℕ) (old new : History) (attempt count number a b : ℕ) → IsHistory old → attempt ≤ reached old → number ≡ attempt + min count (most_attempts - attempt) → FailsToReach height old new number a b
    → FailedTicks height (rewinding old attempt) (rewinding new attempt) (attempt + count) a b
failed height old new attempt count number a b x behind number_is f =
    let short : reached new < number = f.short in
    let few : reached old ≤ most_attempts = x.few in
    record {
      short = omega (arith, short, number_is);
      few = omega (arith, short, number_is, few, behind);
      first = last_version old;
      attempts = f.attempts;
      last = last_version new;
      between = between old new f.attempts x f.extends;
      attempt = f.attempt;
      is = f.is;
      ticks = f.ticks;
    }

-- no step fails that stays within the versions that there are
pub known_goes : (height : ℕ) (old new : History) (attempt count number a b : ℕ) → IsHistory old → number ≡ attempt + min count (most_attempts - attempt) → Keeps old new → FailsToReach height old new number a b → attempt + count ≤ reached old → b ≡ a
known_goes height old new attempt count number a b x number_is k f past =
    let short : reached new < number = f.short in
    let grown : length old.kept ≤ length new.kept = k.more in absurd (omega (arith, short, grown, number_is, past))

pub refused : (old new : History) (attempt : ℕ) → Keeps old new → attempt < length old.kept → IsRefused (rewinding old attempt) (rewinding new attempt)
refused old new attempt k lt = record {
  attempt = refl;
  dna = k.same attempt lt;
  reached = let grown : length old.kept ≤ length new.kept = k.more in omega (arith, grown);
}
