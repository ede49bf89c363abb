-- A script, order by order.
use Rattle.std.proofs.Common.{◌≡◌, ℕ, suc, ◌+◌, ◌<◌, ◌≤◌, Option, Result, Ok, Err, List, [], ◌∷◌, ◌++◌, length, take, drop, get_or, arith, refl, sym, ap, subst, ◌∙◌, append-nil, take-append-drop, drop-cons}
use Rattle.std.specs.Prelude.{max}
use Rattle.std.proofs.lemmas.List.{take_more}
use Rattle.fuun_base.specs.declared.letters.Base.{Base}
use Rattle.fuun_base.specs.Ticks.{Ticks}
use Rattle.fuun_io.specs.Written.{appended, PutsFront}
use Rattle.fuun_io.proofs.WrittenLemmas.{appended-appended, appended-nil, PutsFront-behind, PutsFront-longer}
use Rattle.rewinder.specs.declared.orders.Order.{Order}
use Rattle.rewinder.specs.declared.orders.RewindError.{RewindError}
use Rattle.rewinder.specs.declared.orders.RewindError.TheVariants.{WriteFault, NoMemory}
use Rattle.rewinder.specs.Versions.{most_attempts, IsVersion}
use Rattle.rewinder.specs.Texts.{Obeys, Writes}
use Rattle.rewinder.specs.Rewinding.{Rewinding, IsRewinding, Commanded, AllCommanded, BrokeOff}
use Rattle.rewinder.specs.Weights.{OrderTicks, OrderWeighs, ScriptWeighs, TicksForScript}
use Rattle.rewinder.proofs.TextLemmas.{has_text, writes_behind, writes_one}
use Rattle.rewinder.proofs.WeightLemmas.{failed_order_within, obeyed_order_within, unwritten_order_within, one_order_place}

-- the orders that are left weigh so much that the steps so far are within what all of them weigh
pub record Paid (height : ℕ) (old new : Rewinding) (left : List Order) (total old_steps new_steps : ℕ) : Type 0 where
  pub rest : ℕ
  pub weigh : ScriptWeighs height old.limit old.start left new.attempt new.reached rest
  pub grows : old_steps ≤ new_steps
  pub most : new_steps + rest ≤ old_steps + total

-- so many orders were obeyed
pub record Obeying (height : ℕ) (old new : Rewinding) (orders : List Order) (number : ℕ) (told now : Option (List ℕ)) (old_steps new_steps : ℕ) : Type 0 where
  pub start : new.start ≡ old.start
  pub limit : new.limit ≡ old.limit
  pub known : IsRewinding new
  pub rises : old.reached ≤ new.reached
  pub text : List ℕ
  pub writes : Writes old.limit old.start (take number orders) old.attempt new.attempt text
  pub put : now ≡ appended told text
  pub paid : (total : ℕ) → ScriptWeighs height old.limit old.start orders old.attempt old.reached total → Paid height old new (drop number orders) total old_steps new_steps

pub obeying_none : (height : ℕ) (r : Rewinding) (orders : List Order) (told : Option (List ℕ)) (steps : ℕ) → IsRewinding r → Obeying height r r orders 0 told told steps steps
obeying_none height r orders told steps known = record {
  start = refl;
  limit = refl;
  known = known;
  rises = omega arith;
  text = [];
  writes = (refl, refl);
  put = sym (appended-nil told);
  paid = λ (total : ℕ) (w : ScriptWeighs height r.limit r.start orders r.attempt r.reached total). record { rest = total; weigh = w; grows = omega arith; most = omega arith };
}

module _ (height : ℕ) (old mid : Rewinding) (orders : List Order) (number : ℕ) (order : Order) (told before : Option (List ℕ)) (old_steps steps : ℕ)
    (x : Obeying height old mid orders number told before old_steps steps) (inside : number < length orders) (is : order ≡ get_or orders number order) where
  left_is : drop number orders ≡ order ∷ drop (number + 1) orders
  left_is =
      let next : suc number ≡ number + 1 = omega arith in
      drop-cons orders number order inside ∙ ap (λ k. get_or orders number order ∷ drop k orders) next ∙ ap (λ o. o ∷ drop (number + 1) orders) (sym is)

  front_is : take (number + 1) orders ≡ take number orders ++ order ∷ []
  front_is = take_more orders number order inside ∙ ap (λ o. take number orders ++ o ∷ []) (sym is)

  here : (new : ℕ) (text : List ℕ) → Obeys mid.limit mid.start order mid.attempt new text → Obeys old.limit old.start order mid.attempt new text
  here new text o = subst (λ l. Obeys l old.start order mid.attempt new text) x.limit (subst (λ d. Obeys mid.limit d order mid.attempt new text) x.start o)

  writes_with : (new : ℕ) (text : List ℕ) → Obeys mid.limit mid.start order mid.attempt new text → Writes old.limit old.start (take (number + 1) orders) old.attempt new (x.text ++ text)
  writes_with new text o =
      subst (λ l. Writes old.limit old.start l old.attempt new (x.text ++ text)) (sym front_is)
      (writes_behind old.limit old.start (take number orders) (order ∷ []) old.attempt mid.attempt new x.text text x.writes (writes_one old.limit old.start order mid.attempt new text (here new text o)))

  -- what the order and those behind it weigh
  first_weighs : (rest : ℕ) → ScriptWeighs height old.limit old.start (drop number orders) mid.attempt mid.reached rest
      → (place : ℕ) × (weight : ℕ) × (more : ℕ) × OrderWeighs height mid.limit mid.start order mid.attempt mid.reached place weight
      × ScriptWeighs height old.limit old.start (drop (number + 1) orders) place (max mid.reached place) more × (rest ≡ weight + more)
  first_weighs rest w =
      let parts : ScriptWeighs height old.limit old.start (order ∷ drop (number + 1) orders) mid.attempt mid.reached rest = subst (λ l. ScriptWeighs height old.limit old.start l mid.attempt mid.reached rest) left_is w in
      let there : OrderWeighs height mid.limit mid.start order mid.attempt mid.reached parts.0 parts.1 =
      subst (λ l. OrderWeighs height l mid.start order mid.attempt mid.reached parts.0 parts.1) (sym x.limit) (subst (λ d. OrderWeighs height old.limit d order mid.attempt mid.reached parts.0 parts.1) (sym x.start) parts.3) in
      (parts.0, parts.1, parts.2, there, parts.4, parts.5)

  -- one order more was obeyed
  pub obeying_more : (new : Rewinding) (T : Type 0) (value : T) (now : Option (List ℕ)) (new_steps : ℕ) → (let r : Result T RewindError = Ok value in Commanded mid new order r before now)
      → new.start ≡ mid.start → new.limit ≡ mid.limit → IsRewinding new → (let r : Result T RewindError = Ok value in OrderTicks height mid new order r steps new_steps) → Obeying height old new orders (number + 1) told now old_steps new_steps
  obeying_more new T value now new_steps commanded start limit known ticks = record {
    start = start ∙ x.start;
    limit = limit ∙ x.limit;
    known = known;
    rises = let before : old.reached ≤ mid.reached = x.rises in omega (arith, before, commanded.1.reached);
    text = x.text ++ commanded.0;
    writes = writes_with new.attempt commanded.0 commanded.1.obeys;
    put = commanded.2 ∙ ap (λ t. appended t commanded.0) x.put ∙ appended-appended told x.text commanded.0;
    paid = λ (total : ℕ) (w : ScriptWeighs height old.limit old.start orders old.attempt old.reached total).
        let p : Paid height old mid (drop number orders) total old_steps steps = x.paid total w in
        let first = first_weighs p.rest p.weigh in
        let t : Ticks steps new_steps first.1 = obeyed_order_within height mid new order value first.0 first.1 steps new_steps commanded.1.reached ticks first.3 in
        let place : first.0 ≡ new.attempt = sym (one_order_place height mid.limit mid.start order mid.attempt mid.reached new.attempt first.0 first.1 commanded.0 commanded.1.obeys first.3) in
        let there : ScriptWeighs height old.limit old.start (drop (number + 1) orders) new.attempt (max mid.reached new.attempt) first.2 =
        subst (λ n. ScriptWeighs height old.limit old.start (drop (number + 1) orders) n (max mid.reached n) first.2) place first.4 in
        let some : old_steps ≤ steps = p.grows in
        let within : steps + p.rest ≤ old_steps + total = p.most in
        record {
          rest = first.2;
          weigh = subst (λ n. ScriptWeighs height old.limit old.start (drop (number + 1) orders) new.attempt n first.2) (sym commanded.1.reached) there;
          grows = omega (arith, some, t.0);
          most = omega (arith, within, t.1, first.5);
        };
  }

  -- the order was not obeyed, or its text not written whole

  fails_within : (new_steps : ℕ) → ((place weight : ℕ) → OrderWeighs height mid.limit mid.start order mid.attempt mid.reached place weight → Ticks steps new_steps weight) → TicksForScript height old orders old_steps new_steps
  fails_within new_steps within total w =
      let p : Paid height old mid (drop number orders) total old_steps steps = x.paid total w in
      let first = first_weighs p.rest p.weigh in
      let t : Ticks steps new_steps first.1 = within first.0 first.1 first.3 in
      let some : old_steps ≤ steps = p.grows in
      let most : steps + p.rest ≤ old_steps + total = p.most in
      (omega (arith, some, t.0), omega (arith, most, t.1, first.5))

  pub failed_ticks : (new : Rewinding) (T : Type 0) (e : RewindError) (now : Option (List ℕ)) (new_steps : ℕ) → (let r : Result T RewindError = Err e in Commanded mid new order r before now)
      → (let r : Result T RewindError = Err e in OrderTicks height mid new order r steps new_steps) → TicksForScript height old orders old_steps new_steps
  failed_ticks new T WriteFault now new_steps commanded ticks =
      fails_within new_steps (λ (place weight : ℕ) (w : OrderWeighs height mid.limit mid.start order mid.attempt mid.reached place weight). unwritten_order_within T height mid new order place weight steps new_steps commanded.1.reached ticks w)
  failed_ticks new T NoMemory now new_steps commanded ticks =
      fails_within new_steps (λ (place weight : ℕ) (w : OrderWeighs height mid.limit mid.start order mid.attempt mid.reached place weight). failed_order_within T height mid new order place weight steps new_steps ticks w)

  -- a front of all that the orders write was put
  front_of_all : (new : Rewinding) (T E : Type 0) (e : E) (count place : ℕ) (dna : List Base) (text rest_front : List ℕ) (now : Option (List ℕ)) → place ≤ most_attempts → IsVersion old.limit old.start place dna
      → Writes old.limit old.start (take count orders) old.attempt place text → PutsFront told now text → (let r : Result T E = Err e in AllCommanded old new orders r told now)
  front_of_all new T E e count place dna text rest_front now few version writes put =
      let rest : (last : ℕ) × (more : List ℕ) × Writes old.limit old.start (drop count orders) place last more = has_text old.limit old.start (drop count orders) place dna few version in
      record {
        last = rest.0;
        text = text ++ rest.1;
        writes = subst (λ l. Writes old.limit old.start l old.attempt rest.0 (text ++ rest.1)) (take-append-drop count orders)
            (writes_behind old.limit old.start (take count orders) (drop count orders) old.attempt place rest.0 text rest.1 writes rest.2);
        puts = PutsFront-longer told now text rest.1 put;
        led = tt;
      }

  pub failed_all : (new : Rewinding) (T U : Type 0) (e : RewindError) (now : Option (List ℕ)) → (let r : Result T RewindError = Err e in Commanded mid new order r before now) → new.start ≡ mid.start → new.limit ≡ mid.limit → IsRewinding new
      → (let r : Result U RewindError = Err e in AllCommanded old new orders r told now)
  failed_all new T U WriteFault now commanded start limit known =
      let version : IsVersion old.limit old.start new.attempt new.dna =
      subst (λ l. IsVersion l old.start new.attempt new.dna) (limit ∙ x.limit) (subst (λ d. IsVersion new.limit d new.attempt new.dna) (start ∙ x.start) known.version) in
      let behind : new.attempt ≤ new.reached = known.behind in
      let few : new.reached ≤ most_attempts = known.few in
      front_of_all new U RewindError WriteFault (number + 1) new.attempt new.dna (x.text ++ commanded.0) [] now (omega (arith, behind, few)) version
      (writes_with new.attempt commanded.0 commanded.1.obeys) (PutsFront-behind told before now x.text commanded.0 x.put commanded.2)
  failed_all new T U NoMemory now commanded start limit known =
      let version : IsVersion old.limit old.start mid.attempt mid.dna =
      subst (λ l. IsVersion l old.start mid.attempt mid.dna) x.limit (subst (λ d. IsVersion mid.limit d mid.attempt mid.dna) x.start x.known.version) in
      let behind : mid.attempt ≤ mid.reached = x.known.behind in
      let few : mid.reached ≤ most_attempts = x.known.few in
      front_of_all new U RewindError NoMemory number mid.attempt mid.dna x.text [] now (omega (arith, behind, few)) version x.writes
      (record { front = x.text; rest = []; whole = sym (append-nil x.text); put = commanded.1 ∙ x.put })

  broke_by : (new : Rewinding) (T U : Type 0) (e : RewindError) (now : Option (List ℕ)) → (let r : Result T RewindError = Err e in Commanded mid new order r before now)
      → (let r : Result U RewindError = Err e in Commanded mid new order r (appended told x.text) now)
  broke_by new T U WriteFault now commanded = (commanded.0, commanded.1, subst (λ t. PutsFront t now commanded.0) x.put commanded.2)
  broke_by new T U NoMemory now commanded = (commanded.0, commanded.1 ∙ x.put)

  -- those before the order had been obeyed
  pub broke_off : (new : Rewinding) (T U : Type 0) (e : RewindError) (now : Option (List ℕ)) → (let r : Result T RewindError = Err e in Commanded mid new order r before now) → (let r : Result U RewindError = Err e in BrokeOff old new orders r told now)
  broke_off new T U e now commanded = record {
    before = take number orders;
    order = order;
    later = drop (number + 1) orders;
    whole = sym (take-append-drop number orders) ∙ ap (λ l. take number orders ++ l) left_is;
    middle = mid;
    start = x.start;
    limit = x.limit;
    known = x.known;
    rises = x.rises;
    text = x.text;
    writes = x.writes;
    broke = broke_by new T U e now commanded;
  }
