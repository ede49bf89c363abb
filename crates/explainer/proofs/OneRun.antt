-- Cells have one run at most.
use Rattle.std.proofs.Common.{◌≡◌, ℕ, ◌+◌, ◌<◌, ◌≤◌, Some, List, [], ◌∷◌, ◌++◌, length, arith, refl, sym, ap, subst, ◌∙◌, append-nil}
use Rattle.std.proofs.lemmas.Option.{none-some, same_Some}
use Rattle.sym_strand.specs.declared.cells.Cell.{Cell}
use Rattle.explainer.specs.Attempt as one
use Rattle.explainer.specs.Attempt.{Attempt, IsAttempt, DependsOn, next_cells}
use Rattle.explainer.specs.Run.{End, Finished, Budget, TooLong, Depends, LeadOn, Run, RunsTo}
use Rattle.explainer.specs.Laws.{HasOneRun}
use Rattle.explainer.proofs.OneAttempt.{one_attempt, attempts_do_not_depend}

-- why a run made no attempt more that led on
data Stop (limit budget : ℕ) (z : List Cell) (number : ℕ) (end : End) (more : List Attempt) : Type 0 where
  Spent : number ≡ budget → end ≡ Budget → more ≡ [] → Stop limit budget z number end more
  Over : (last : Attempt) → IsAttempt z limit last → last.ending ≡ one.TooLong → number < budget → end ≡ TooLong number → more ≡ last ∷ [] → Stop limit budget z number end more
  Done : (last : Attempt) → IsAttempt z limit last → last.ending ≡ one.Finished → number < budget → end ≡ Finished (number + 1) → more ≡ last ∷ [] → Stop limit budget z number end more
  Unsure : DependsOn z → number < budget → end ≡ Depends number → more ≡ [] → Stop limit budget z number end more

-- a run as the attempts that led on, and why it stopped
record Stopped (z : List Cell) (budget limit : ℕ) (run : Run) : Type 0 where
  front : List Attempt
  more : List Attempt
  leads : LeadOn limit z front run.cells
  made : run.attempts ≡ front ++ more
  stop : Stop limit budget run.cells (length front) run.end more

stopped : (z : List Cell) (budget limit : ℕ) (run : Run) (end : End) → run.end ≡ end → RunsTo z budget limit run end → Stopped z budget limit run
stopped z budget limit run Budget is x = record {
  front = run.attempts;
  more = [];
  leads = x.leads;
  made = sym (append-nil run.attempts);
  stop = Spent x.all is refl;
}
stopped z budget limit run (Finished attempts) is x = record {
  front = x.2.earlier;
  more = x.2.last ∷ [];
  leads = x.2.leads;
  made = x.2.made;
  stop = Done x.2.last x.2.attempt x.2.ends (let n = x.2.number in let l = x.2.allowed in omega arith) (is ∙ ap (λ n. Finished n) (x.1 ∙ ap (λ n. n + 1) (sym x.2.number))) refl;
}
stopped z budget limit run (TooLong attempt) is x = record {
  front = x.earlier;
  more = x.last ∷ [];
  leads = x.leads;
  made = x.made;
  stop = Over x.last x.attempt x.ends (let n = x.number in let l = x.allowed in omega arith) (is ∙ ap (λ n. TooLong n) (sym x.number)) refl;
}
stopped z budget limit run (Depends attempt) is x = record {
  front = run.attempts;
  more = [];
  leads = x.leads;
  made = sym (append-nil run.attempts);
  stop = Unsure x.depends (let n = x.number in let l = x.allowed in omega arith) (is ∙ ap (λ n. Depends n) (sym x.number)) refl;
}

stop_most : (limit budget : ℕ) (z : List Cell) (number : ℕ) (end : End) (more : List Attempt) → Stop limit budget z number end more → number ≤ budget
stop_most limit budget z number end more (Spent is e m) = omega arith
stop_most limit budget z number end more (Over last a e within f m) = omega arith
stop_most limit budget z number end more (Done last a e within f m) = omega arith
stop_most limit budget z number end more (Unsure d within e m) = omega arith

-- an attempt that leads on is made at cells where a run stopped: then its budget was spent
goes_no_stop : (limit budget : ℕ) (z next : List Cell) (number : ℕ) (end : End) (more : List Attempt) (a : Attempt) → Stop limit budget z number end more → IsAttempt z limit a → next_cells a.ending ≡ Some next → number ≡ budget
goes_no_stop limit budget z next number end more a (Spent is e m) x goes = is
goes_no_stop limit budget z next number end more a (Over last y e within f m) x goes =
    absurd (none-some next (ap next_cells (sym e ∙ ap (λ b. b.ending) (one_attempt z limit last a y x)) ∙ goes))
goes_no_stop limit budget z next number end more a (Done last y e within f m) x goes =
    absurd (none-some next (ap next_cells (sym e ∙ ap (λ b. b.ending) (one_attempt z limit last a y x)) ∙ goes))
goes_no_stop limit budget z next number end more a (Unsure d within e m) x goes = absurd (attempts_do_not_depend z limit a x d)

-- two chains from the same cells are the same where both stop

same_chains : (limit budget before : ℕ) (z x y : List Cell) (p q : List Attempt) (e f : End) (m n : List Attempt) → LeadOn limit z p x → LeadOn limit z q y
    → Stop limit budget x (before + length p) e m → Stop limit budget y (before + length q) f n → (p ≡ q) × (x ≡ y)
same_chains limit budget before z x y [] [] e f m n a b s t = (refl, sym a ∙ b)
same_chains limit budget before z x y [] (c ∷ q) e f m n a b s t =
    let here : IsAttempt x limit c = subst (λ l. IsAttempt l limit c) a b.0 in
    absurd (omega (arith, goes_no_stop limit budget x b.1.0 (before + 0) e m c s here b.1.1, stop_most limit budget y (before + length (c ∷ q)) f n t))
same_chains limit budget before z x y (c ∷ p) [] e f m n a b s t =
    let here : IsAttempt y limit c = subst (λ l. IsAttempt l limit c) b a.0 in
    absurd (omega (arith, goes_no_stop limit budget y a.1.0 (before + 0) f n c t here a.1.1, stop_most limit budget x (before + length (c ∷ p)) e m s))
same_chains limit budget before z x y (c ∷ p) (d ∷ q) e f m n a b s t =
    let first : c ≡ d = one_attempt z limit c d a.0 b.0 in
    let nexts : a.1.0 ≡ b.1.0 = same_Some a.1.0 b.1.0 (sym a.1.1 ∙ ap (λ i. next_cells i.ending) first ∙ b.1.1) in
    let one_p : before + length (c ∷ p) ≡ before + 1 + length p = omega arith in
    let one_q : before + length (d ∷ q) ≡ before + 1 + length q = omega arith in
    let rest = same_chains limit budget (before + 1) b.1.0 x y p q e f m n (subst (λ l. LeadOn limit l p x) nexts a.1.2) b.1.2
    (subst (λ k. Stop limit budget x k e m) one_p s) (subst (λ k. Stop limit budget y k f n) one_q t) in
    (ap (λ i. i ∷ p) first ∙ ap (λ l. d ∷ l) rest.0, rest.1)

over_done : one.TooLong ≡ one.Finished → ⊥
over_done e = cc

same_stops : (limit budget : ℕ) (z : List Cell) (number : ℕ) (e f : End) (m n : List Attempt) → Stop limit budget z number e m → Stop limit budget z number f n → (e ≡ f) × (m ≡ n)
same_stops limit budget z number e f m n (Spent a p q) (Spent b r s) = (p ∙ sym r, q ∙ sym s)
same_stops limit budget z number e f m n (Spent a p q) (Over last x i within r s) = absurd (omega arith)
same_stops limit budget z number e f m n (Spent a p q) (Done last x i within r s) = absurd (omega arith)
same_stops limit budget z number e f m n (Spent a p q) (Unsure d within r s) = absurd (omega arith)
same_stops limit budget z number e f m n (Over last x i within p q) (Spent b r s) = absurd (omega arith)
same_stops limit budget z number e f m n (Over last x i within p q) (Over other y j less r s) = (p ∙ sym r, q ∙ ap (λ l. l ∷ []) (one_attempt z limit last other x y) ∙ sym s)
same_stops limit budget z number e f m n (Over last x i within p q) (Done other y j less r s) = absurd (over_done (sym i ∙ ap (λ a. a.ending) (one_attempt z limit last other x y) ∙ j))
same_stops limit budget z number e f m n (Over last x i within p q) (Unsure d less r s) = absurd (attempts_do_not_depend z limit last x d)
same_stops limit budget z number e f m n (Done last x i within p q) (Spent b r s) = absurd (omega arith)
same_stops limit budget z number e f m n (Done last x i within p q) (Over other y j less r s) = absurd (over_done (sym j ∙ ap (λ a. a.ending) (one_attempt z limit other last y x) ∙ i))
same_stops limit budget z number e f m n (Done last x i within p q) (Done other y j less r s) = (p ∙ sym r, q ∙ ap (λ l. l ∷ []) (one_attempt z limit last other x y) ∙ sym s)
same_stops limit budget z number e f m n (Done last x i within p q) (Unsure d less r s) = absurd (attempts_do_not_depend z limit last x d)
same_stops limit budget z number e f m n (Unsure d within p q) (Spent b r s) = absurd (omega arith)
same_stops limit budget z number e f m n (Unsure d within p q) (Over last x i less r s) = absurd (attempts_do_not_depend z limit last x d)
same_stops limit budget z number e f m n (Unsure d within p q) (Done last x i less r s) = absurd (attempts_do_not_depend z limit last x d)
same_stops limit budget z number e f m n (Unsure d within p q) (Unsure c less r s) = (p ∙ sym r, q ∙ sym s)

same_run : (a b : Run) → a.end ≡ b.end → a.attempts ≡ b.attempts → a.cells ≡ b.cells → a ≡ b
same_run a b end attempts cells =
    ap (λ e. let r : Run = record { end = e; attempts = a.attempts; cells = a.cells } in r) end
    ∙ ap (λ l. let r : Run = record { end = b.end; attempts = l; cells = a.cells } in r) attempts
    ∙ ap (λ c. let r : Run = record { end = b.end; attempts = b.attempts; cells = c } in r) cells

same_stopped : (limit budget : ℕ) (z : List Cell) (a b : Run) → Stopped z budget limit a → Stopped z budget limit b → a ≡ b
same_stopped limit budget z a b p q =
    let none_p : length p.front ≡ 0 + length p.front = omega arith in
    let none_q : length q.front ≡ 0 + length q.front = omega arith in
    let chains = same_chains limit budget 0 z a.cells b.cells p.front q.front a.end b.end p.more q.more p.leads q.leads
    (subst (λ k. Stop limit budget a.cells k a.end p.more) none_p p.stop) (subst (λ k. Stop limit budget b.cells k b.end q.more) none_q q.stop) in
    let count : length p.front ≡ length q.front = ap length chains.0 in
    let stops = same_stops limit budget b.cells (length q.front) a.end b.end p.more q.more
    (subst (λ k. Stop limit budget b.cells k a.end p.more) count (subst (λ c. Stop limit budget c (length p.front) a.end p.more) chains.1 p.stop)) q.stop in
    same_run a b stops.0 (p.made ∙ ap (λ l. l ++ p.more) chains.0 ∙ ap (λ l. q.front ++ l) stops.1 ∙ sym q.made) chains.1

pub one_run : HasOneRun
one_run limit budget z a b x y = same_stopped limit budget z a b (stopped z budget limit a a.end refl x) (stopped z budget limit b b.end refl y)
