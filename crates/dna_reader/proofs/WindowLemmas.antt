-- Windows on a strand.
use Rattle.std.proofs.Common.{◌≡◌, ℕ, ◌+◌, ◌-◌, ◌≤◌, List, ◌++◌, length, take, drop, min, arith, ap, sym, ◌∙◌, length-take, length-drop}
use Rattle.std.proofs.lemmas.List.{take-append-drop, length-take-le, drop-drop, drop-take, drop-append-le, take-append-le}
use Rattle.std.proofs.Math.Seq.{take-append_seam, take-append-add}
use Rattle.fuun_base.specs.declared.letters.Base.{Base}
use Rattle.dna_reader.specs.View.{View}
use Rattle.dna_reader.specs.Window.{Shows, viewed, IsInOrder}
use Rattle.dna_reader.specs.declared.window.Window.TheInside.{Inside}

-- what is ahead after some of it was passed
pub passed : (bases : List Base) (from to count : ℕ) → from + count ≤ to → take (to - (from + count)) (drop (from + count) bases) ≡ drop count (take (to - from) (drop from bases))
passed bases from to count le =
    let n : ℕ = to - (from + count) in
    let all : to - from ≡ count + n = omega arith in
    sym (ap (λ m. drop count (take m (drop from bases))) all ∙ drop-take count n (drop from bases) ∙ ap (λ l. take n l) (drop-drop count from bases))

-- the front of a buffer into which bases were copied
pub copied : (xs old : List Base) (r : ℕ) → length xs ≡ r → take (r - 0) (drop 0 (xs ++ old)) ≡ xs
copied xs old r e =
    let n : r - 0 ≡ length xs = omega arith in
    ap (λ m. take m (xs ++ old)) n ∙ take-append_seam xs old

pub shows_front : (w : View) (d : List Base) (r : ℕ) → w.len ≡ length d → w.place + r ≤ length d → w.ahead ≡ take r (drop w.place d) → Shows w d
shows_front w d r len within ahead =
    let there : length (take r (drop w.place d)) ≡ r = length-take-le r (drop w.place d) (omega (arith, length-drop w.place d)) in
    let count : length w.ahead ≡ r = ap length ahead ∙ there in
    record {
      len = len;
      ahead = sym (ap (λ l. l ++ drop (w.place + length w.ahead) d) ahead ∙ ap (λ n. take r (drop w.place d) ++ drop (w.place + n) d) count ∙ ap (λ l. take r (drop w.place d) ++ l) (sym (drop-drop r w.place d)) ∙ take-append-drop r (drop w.place d));
      within = omega arith;
    }

pub shows_passed : (w v : View) (d : List Base) (count : ℕ) → Shows w d → count ≤ length w.ahead → v.len ≡ w.len → v.place ≡ w.place + count → v.ahead ≡ drop count w.ahead → Shows v d
shows_passed w v d count shows le len place ahead = record {
  len = len ∙ shows.len;
  ahead =
      let split : drop (w.place + count) d ≡ drop count (w.ahead ++ drop (w.place + length w.ahead) d) = sym (drop-drop count w.place d) ∙ ap (λ l. drop count l) shows.ahead in
      let same : w.place + count + (length w.ahead - count) ≡ w.place + length w.ahead = omega arith in
      let left : length v.ahead ≡ length w.ahead - count = ap length ahead ∙ length-drop count w.ahead in
      ap (λ n. drop n d) place ∙ split ∙ drop-append-le count w.ahead (drop (w.place + length w.ahead) d) le
      ∙ ap (λ l. l ++ drop (w.place + length w.ahead) d) (sym ahead)
      ∙ ap (λ n. v.ahead ++ drop n d) (sym (ap (λ n. n + length v.ahead) place ∙ ap (λ n. w.place + count + n) left ∙ same));
  within = let left = ap length ahead in omega (arith, shows.within, length-drop count w.ahead);
}

-- what a window shows, as a front of what stands at an earlier place
pub front_more : (w : View) (d : List Base) (start : ℕ) (count : ℕ) → Shows w d → start ≤ w.place → count ≤ length w.ahead
    → take (w.place + count - start) (drop start d) ≡ take (w.place - start) (drop start d) ++ take count w.ahead
front_more w d start count shows le few =
    let front : List Base = take (w.place - start) (drop start d) in
    let at : length front ≡ w.place - start = length-take-le (w.place - start) (drop start d) (omega (arith, length-drop start d, shows.within)) in
    let place : start + (w.place - start) ≡ w.place = omega arith in
    let all : drop start d ≡ front ++ (w.ahead ++ drop (w.place + length w.ahead) d) =
    sym (take-append-drop (w.place - start) (drop start d)) ∙ ap (λ l. front ++ l) (drop-drop (w.place - start) start d ∙ ap (λ n. drop n d) place ∙ shows.ahead) in
    let sum : w.place + count - start ≡ length front + count = omega arith in
    ap (λ n. take n (drop start d)) sum ∙ ap (λ l. take (length front + count) l) all ∙ take-append-add front (w.ahead ++ drop (w.place + length w.ahead) d) count
    ∙ ap (λ l. front ++ l) (take-append-le count w.ahead (drop (w.place + length w.ahead) d) few)

-- the place, the length and what is ahead, of the fields
pub same_place : (a : Inside) (w : View) → viewed a ≡ w → (a.place ≡ w.place) × (a.len ≡ w.len) × (take (a.to - a.from) (drop a.from a.bases) ≡ w.ahead)
same_place a w is = (ap (λ (v : View). v.place) is, ap (λ (v : View). v.len) is, ap (λ (v : View). v.ahead) is)

pub passed_ahead : (a : Inside) (w : View) (count : ℕ) → viewed a ≡ w → IsInOrder a → count ≤ length w.ahead → take (a.to - (a.from + count)) (drop (a.from + count) a.bases) ≡ drop count w.ahead
passed_ahead a w count is order le =
    let ahead = (same_place a w is).2 in
    let room = ap length ahead in
    passed a.bases a.from a.to count (omega (arith, length-take (a.to - a.from) (drop a.from a.bases), order.order)) ∙ ap (λ l. drop count l) ahead

-- the view of fields into which r bases were copied
pub filled : (a : Inside) (w : View) (d buffer : List Base) (r room : ℕ) → viewed a ≡ w → Shows w d → r ≡ min room (length d - a.place) → buffer ≡ take r (drop a.place d) ++ drop r a.bases
    → Shows (record { place = a.place; len = a.len; ahead = take (r - 0) (drop 0 buffer) }) d
filled a w d buffer r room is shows count copy =
    let same = same_place a w is in
    let place : a.place ≤ length d = omega (arith, same.0, shows.within) in
    let there : length (take r (drop a.place d)) ≡ r = length-take-le r (drop a.place d) (omega (arith, length-drop a.place d)) in
    shows_front (record { place = a.place; len = a.len; ahead = take (r - 0) (drop 0 buffer) }) d r (same.1 ∙ shows.len) (omega arith)
    (ap (λ l. take (r - 0) (drop 0 l)) copy ∙ copied (take r (drop a.place d)) (drop r a.bases) r there)
