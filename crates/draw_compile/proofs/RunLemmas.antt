-- The runs of a row.
use Rattle.std.proofs.Common.{◌≡◌, ℕ, zero, suc, ◌+◌, ◌-◌, ◌*◌, ◌<◌, ◌≤◌, Bool, true, false, List, [], ◌∷◌, length, drop, get_or, refl, sym, ap, ◌∙◌, subst, arith, add-one, length-drop}
use Rattle.std.specs.Prelude.{◌==◌, ◌&&◌, if◌then◌else◌}
use Rattle.std.proofs.lemmas.Bool.{eqb-true, eq-eqb}
use Rattle.std.proofs.lemmas.List.{drop-drop, get_or-take, get_or-drop, length-take-le}
use Rattle.picture_in.specs.Pixmap.{Rgb, black, rgb_at}
use Rattle.draw_compile.specs.declared.runs.Run.{Run}
use Rattle.draw_compile.specs.Runs.{one_of, row_at, runs_of, same, with_pixel}

-- equal pixels

and_true : (a b : Bool) → (a && b) ≡ true → (a ≡ true) × (b ≡ true)
and_true true b e = (refl, e)
and_true false b e = cc

pub same-true : (p q : Rgb) → same p q ≡ true → p ≡ q
same-true p q is =
    let first = and_true (p.0 == q.0) (p.1 == q.1 && p.2 == q.2) is in
    let others = and_true (p.1 == q.1) (p.2 == q.2) first.1 in
    let of : ℕ → ℕ → ℕ → Rgb = λ r g b. (r, g, b) in
    ap (λ r. of r p.1 p.2) (eqb-true p.0 q.0 first.0)
    ∙ ap (λ g. of q.0 g p.2) (eqb-true p.1 q.1 others.0)
    ∙ ap (of q.0 q.1) (eqb-true p.2 q.2 others.1)

pub same-self : (p : Rgb) → same p p ≡ true
same-self p = rw (eq-eqb p.0 p.0 refl) (rw (eq-eqb p.1 p.1 refl) (eq-eqb p.2 p.2 refl))

-- what some runs are, one after another

-- a run of so many equal pixels, and the other runs behind it
abbrev pub run_of : Rgb → ℕ → Run
run_of p len = record { pixel = p; len = len }

-- these runs are a row
abbrev pub Covers : List Run → List Rgb → Type 0
Covers [] row = row ≡ []
Covers (run ∷ runs) row =
    (1 ≤ run.len) × (run.len ≤ length row)
    × ((k : ℕ) → k < run.len → get_or row k black ≡ run.pixel)
    × Covers runs (drop run.len row)

covers_one : (p : Rgb) (runs : List Run) (row : List Rgb) → Covers runs row → Covers (one_of p ∷ runs) (p ∷ row)
covers_one p runs row covers = (
  omega arith,
  omega arith,
  λ k below. let none : k ≡ 0 = omega arith in ap (λ n. get_or (p ∷ row) n black) none,
  covers,
)

longer_pixels : (p q : Rgb) (len : ℕ) (row : List Rgb) → p ≡ q → ((k : ℕ) → k < len → get_or row k black ≡ q) → (k : ℕ) → k < len + 1 → get_or (p ∷ row) k black ≡ p
longer_pixels p q len row is all zero below = refl
longer_pixels p q len row is all (suc k) below = all k (omega arith) ∙ sym is

covers_by : (p : Rgb) (run : Run) (runs : List Run) (row : List Rgb) (b : Bool) → same p run.pixel ≡ b → Covers (run ∷ runs) row
    → Covers (if b then run_of p (run.len + 1) ∷ runs else one_of p ∷ run ∷ runs) (p ∷ row)
covers_by p run runs row true is covers =
    let rest : drop run.len row ≡ drop (run.len + 1) (p ∷ row) = sym (ap (λ n. drop n (p ∷ row)) (add-one run.len)) in (
      omega arith,
      omega (arith, covers.1),
      longer_pixels p run.pixel run.len row (same-true p run.pixel is) covers.2,
      subst (Covers runs) rest covers.3,
    )
covers_by p run runs row false is covers = covers_one p (run ∷ runs) row covers

covers_more : (p : Rgb) (runs : List Run) (row : List Rgb) → Covers runs row → Covers (with_pixel p runs) (p ∷ row)
covers_more p [] row covers = covers_one p [] row covers
covers_more p (run ∷ runs) row covers = covers_by p run runs row (same p run.pixel) refl covers

pub covers : (row : List Rgb) → Covers (runs_of row) row
covers [] = refl
covers (p ∷ row) = covers_more p (runs_of row) row (covers row)

-- the first run

-- the runs of a row begin with one of its first pixel
record BeginsWith (p : Rgb) (runs : List Run) : Type 0 where
  len : ℕ
  others : List Run
  is : runs ≡ run_of p len ∷ others

begins_by : (p : Rgb) (run : Run) (runs : List Run) (b : Bool) → BeginsWith p (if b then run_of p (run.len + 1) ∷ runs else one_of p ∷ run ∷ runs)
begins_by p run runs true = record { len = run.len + 1; others = runs; is = refl }
begins_by p run runs false = record { len = 1; others = run ∷ runs; is = refl }

begins : (p : Rgb) (runs : List Run) → BeginsWith p (with_pixel p runs)
begins p [] = record { len = 1; others = []; is = refl }
begins p (run ∷ runs) = begins_by p run runs (same p run.pixel)

joined : (p q : Rgb) (len : ℕ) (runs : List Run) → same p q ≡ true → with_pixel p (run_of q len ∷ runs) ≡ run_of p (len + 1) ∷ runs
joined p q len runs is = rw is refl

apart : (p q : Rgb) (len : ℕ) (runs : List Run) → same p q ≡ false → with_pixel p (run_of q len ∷ runs) ≡ one_of p ∷ run_of q len ∷ runs
apart p q len runs is = rw is refl

-- as many equal pixels as there are at the front are the first run
pub first_run : (n : ℕ) (row : List Rgb) (p : Rgb) → ((k : ℕ) → k < suc n → get_or row k black ≡ p) → suc n ≤ length row → (suc n < length row → same p (get_or row (suc n) black) ≡ false)
    → runs_of row ≡ run_of p (suc n) ∷ runs_of (drop (suc n) row)
first_run n [] p all within stops = absurd (omega arith)
first_run zero (x ∷ []) p all within stops = ap (λ q. one_of q ∷ []) (all 0 (omega arith))
first_run zero (x ∷ y ∷ row) p all within stops =
    let is : x ≡ p = all 0 (omega arith) in
    let next = begins y (runs_of row) in
    let other : same x y ≡ false = rw is (stops (omega arith)) in
    ap (with_pixel x) next.is
    ∙ apart x y next.len next.others other
    ∙ ap (λ runs. one_of x ∷ runs) (sym next.is)
    ∙ ap (λ q. one_of q ∷ runs_of (y ∷ row)) is
first_run (suc n) (x ∷ row) p all within stops =
    let is : x ≡ p = all 0 (omega arith) in
    let further : runs_of row ≡ run_of p (suc n) ∷ runs_of (drop (suc n) row) =
    first_run n row p (λ k below. all (suc k) (omega arith)) (omega arith) (λ more. stops (omega arith)) in
    let equal : same x p ≡ true = rw is (same-self p) in
    let longer : suc n + 1 ≡ suc (suc n) = omega arith in
    ap (with_pixel x) further
    ∙ joined x p (suc n) (runs_of (drop (suc n) row)) equal
    ∙ ap (λ q. run_of q (suc n + 1) ∷ runs_of (drop (suc n) row)) is
    ∙ ap (λ len. run_of p len ∷ runs_of (drop (suc n) row)) longer

-- a row of a picture

pub length-row_at : (side : ℕ) (picture : List Rgb) (y : ℕ) → (y + 1) * side ≤ length picture → length (row_at side picture y) ≡ side
unfolding row_at
length-row_at side picture y within =
    length-take-le side (drop (y * side) picture) (omega (arith, length-drop (y * side) picture))

pub row_at-pixel : (side : ℕ) (picture : List Rgb) (y x : ℕ) → x < side → get_or (row_at side picture y) x black ≡ get_or picture (y * side + x) black
unfolding row_at
row_at-pixel side picture y x within = get_or-take side (drop (y * side) picture) x black within ∙ get_or-drop (y * side) picture x black

-- the run from a place of a row to another
pub run_between : (picture : List Rgb) (x y stop : ℕ) (p : Rgb) → x < stop → stop ≤ 600 → length (row_at 600 picture y) ≡ 600
    → ((k : ℕ) → x ≤ k → k < stop → rgb_at picture k y ≡ p) → (stop < 600 → same p (rgb_at picture stop y) ≡ false)
    → runs_of (drop x (row_at 600 picture y)) ≡ run_of p (stop - x) ∷ runs_of (drop (x + (stop - x)) (row_at 600 picture y))
run_between picture x y stop p some within len all stops =
    let row = row_at 600 picture y in
    let n : ℕ = stop - x - 1 in
    let at : (k : ℕ) → x + k < 600 → get_or (drop x row) k black ≡ rgb_at picture (x + k) y = λ k below. get_or-drop x row k black ∙ row_at-pixel 600 picture y (x + k) below in
    let long : suc n ≡ stop - x = omega arith in
    let end : x + suc n ≡ stop = omega arith in
    let left : length (drop x row) ≡ 600 - x = length-drop x row ∙ ap (λ l. l - x) len in
    let next : suc n < length (drop x row) → same p (get_or (drop x row) (suc n) black) ≡ false =
    λ more. ap (same p) (at (suc n) (omega arith) ∙ ap (λ k. rgb_at picture k y) end) ∙ stops (omega arith) in
    let found : runs_of (drop x row) ≡ run_of p (suc n) ∷ runs_of (drop (suc n) (drop x row)) =
    first_run n (drop x row) p (λ k below. at k (omega arith) ∙ all (x + k) (omega arith) (omega arith)) (omega arith) next in
    found
    ∙ ap (λ l. run_of p (suc n) ∷ runs_of l) (drop-drop (suc n) x row)
    ∙ ap (λ k. run_of p k ∷ runs_of (drop (x + k) row)) long
