-- Lists in parts.
use Rattle.std.proofs.Common.{◌≡◌, ℕ, ◌+◌, ◌-◌, ◌≤◌, List, ◌++◌, length, take, drop, arith, refl, sym, ap, ◌∙◌, length-append, length-drop}
use Rattle.std.specs.Prelude.{slice_range}
use Rattle.std.proofs.lemmas.List.{append_assoc, take-append-drop, length-take-le}
use Rattle.std.proofs.Math.Seq.{take-append_seam, drop-append_seam}
use Rattle.fuun_base.specs.declared.letters.Base.{Base}
use Rattle.patch_compile.specs.Splice.{without, with_put}

pub take_at : (d u r : List Base) (n : ℕ) → d ≡ u ++ r → n ≡ length u → take n d ≡ u
take_at d u r n whole at = rw (whole, at) (take-append_seam u r)

pub drop_at : (d u r : List Base) (n : ℕ) → d ≡ u ++ r → n ≡ length u → drop n d ≡ r
drop_at d u r n whole at = rw (whole, at) (drop-append_seam u r)

pub range_at : (d u w r : List Base) (lo hi : ℕ) → d ≡ u ++ (w ++ r) → lo ≡ length u → hi ≡ lo + length w → slice_range d lo hi ≡ w
range_at d u w r lo hi whole at up =
    let size : hi - lo ≡ length w = omega (arith, up) in
    ap (λ l. take (hi - lo) l) (drop_at d u (w ++ r) lo whole at) ∙ take_at (w ++ r) w r (hi - lo) refl size

pub with_put_at : (d u r w put : List Base) (place : ℕ) → d ≡ u ++ r → place ≡ length u → put ≡ w → with_put d place put ≡ u ++ (w ++ r)
with_put_at d u r w put place whole at same = rw (take_at d u r place whole at, drop_at d u r place whole at, same) refl

pub without_at : (d u w r : List Base) (start stop : ℕ) → d ≡ u ++ (w ++ r) → start ≡ length u → stop ≡ start + length w → without d start stop ≡ u ++ r
without_at d u w r start stop whole at up =
    let joined : d ≡ (u ++ w) ++ r = whole ∙ sym (append_assoc u w r) in
    let size : stop ≡ length (u ++ w) = omega (arith, up, at, length-append u w) in
    rw (take_at d u (w ++ r) start whole at, drop_at d (u ++ w) r stop joined size) refl

-- a list in three parts
pub record InThree (d : List Base) (a b : ℕ) : Type 0 where
  pub u : List Base
  pub w : List Base
  pub v : List Base
  pub whole : d ≡ u ++ (w ++ v)
  pub first : a ≡ length u
  pub second : b ≡ length w

pub in_three : (d : List Base) (a b : ℕ) → a + b ≤ length d → InThree d a b
in_three d a b within = record {
  u = take a d;
  w = take b (drop a d);
  v = drop b (drop a d);
  whole = sym (ap (λ l. take a d ++ l) (take-append-drop b (drop a d)) ∙ take-append-drop a d);
  first = sym (length-take-le a d (omega (arith, within)));
  second = sym (length-take-le b (drop a d) (omega (arith, within, length-drop a d)));
}

-- and in four
pub record InFour (d : List Base) (a b c : ℕ) : Type 0 where
  pub u : List Base
  pub w1 : List Base
  pub w2 : List Base
  pub v : List Base
  pub whole : d ≡ u ++ (w1 ++ (w2 ++ v))
  pub first : a ≡ length u
  pub second : b ≡ length w1
  pub third : c ≡ length w2

pub in_four : (d : List Base) (a b c : ℕ) → a + b + c ≤ length d → InFour d a b c
in_four d a b c within =
    let front = in_three d a b (omega (arith, within)) in
    let size : length d ≡ length front.u + (length front.w + length front.v) =
    ap length front.whole ∙ length-append front.u (front.w ++ front.v) ∙ ap (λ n. length front.u + n) (length-append front.w front.v) in
    let left : c ≤ length front.v = omega (arith, within, size, front.first, front.second) in
    record {
      u = front.u;
      w1 = front.w;
      w2 = take c front.v;
      v = drop c front.v;
      whole = front.whole ∙ ap (λ l. front.u ++ (front.w ++ l)) (sym (take-append-drop c front.v));
      first = front.first;
      second = front.second;
      third = sym (length-take-le c front.v left);
    }
