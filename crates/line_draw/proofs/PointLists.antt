-- A line has one list of points, and they are on each bitmap that has its ends.
use Rattle.std.proofs.Common.{◌≡◌, ℕ, ◌-◌, ◌/◌, ◌<◌, inl, inr, get_or, pos, refl, sym, ap, ◌∙◌, arith}
use Rattle.std.proofs.lemmas.Bool.{cases_lt}
use Rattle.std.proofs.lemmas.List.{same_lists}
use Rattle.canvas.specs.declared.pixel.Spot.{Spot}
use Rattle.canvas.specs.Pixels.{IsInside}
use Rattle.line_draw.specs.Lines.{bias_of, half_of, point_at, point_of, points, steps_of}
use Rattle.line_draw.specs.LineLaws.{PointsAlways, PointsAreInside, PointsOnce}
use Rattle.line_draw.specs.Walks.{spot_at}
use Rattle.line_draw.proofs.Points.{count_of_points, last_of, nth_of, place_below, point_is}
use Rattle.line_draw.proofs.Signs.{bias_small, half_is}

pub the_points : PointsAlways
the_points start stop = record { count = count_of_points start stop; each = nth_of start stop; last = last_of start stop }

pub one_list : PointsOnce
one_list start stop list are =
    let d = steps_of start stop in
    same_lists list (points start stop) (are.count ∙ sym (count_of_points start stop)) (λ k p within.
    elim (cases_lt k d) [
      | inl before ↦ are.each k p before ∙ sym (nth_of start stop k p before)
      | inr past ↦
          let last : k ≡ d = omega (arith, are.count) in
          ap (λ n. get_or list n p) last ∙ are.last p ∙ sym (last_of start stop p) ∙ ap (λ n. get_or (points start stop) n p) (sym last)
    ])

-- the point after some steps is a spot
spot_after : (side : ℕ) (start stop : Spot) (k : ℕ) → IsInside side start → IsInside side stop → k < steps_of start stop → (s : Spot) × (IsInside side s × (point_at start stop k ≡ point_of s))
spot_after side start stop k in_start in_stop before =
    let d = steps_of start stop in
    let h = (d - bias_of start stop) / 2 in
    let small = bias_small start stop in
    let half : half_of start stop ≡ pos h = half_is start stop d (bias_of start stop) h refl refl (omega (arith, small)) refl in
    let below : h < d = omega arith in (
      spot_at start stop d h k,
      (
        (place_below start.x stop.x side d h k below (omega arith) in_start.0 in_stop.0, place_below start.y stop.y side d h k below (omega arith) in_start.1 in_stop.1),
        point_is start stop d h refl (λ some. half) k before,
      ),
    )

pub points_inside : PointsAreInside
points_inside side start stop p in_start in_stop on =
    let k = on.0 in
    elim (cases_lt k (steps_of start stop)) [
      | inl before ↦
          let at = spot_after side start stop k in_start in_stop before in
          (at.0, (at.1.0, sym on.2 ∙ nth_of start stop k p before ∙ at.1.1))
      | inr past ↦
          let last : k ≡ steps_of start stop = omega (arith, on.1, count_of_points start stop) in
          (stop, (in_stop, sym on.2 ∙ ap (λ n. get_or (points start stop) n p) last ∙ last_of start stop p))
    ]
