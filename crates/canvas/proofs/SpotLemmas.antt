-- When two spots are one.
use Rattle.std.proofs.Common.{◌≡◌, ◌≢◌, ℕ, ◌⊎◌, inl, inr, ap, ◌∙◌}
use Rattle.canvas.specs.declared.pixel.Spot.{Spot}
use Rattle.canvas.proofs.Decided.{Decided, both, same_number}

-- a spot by its coordinates
pub same_spot : (s t : Spot) → s.x ≡ t.x → s.y ≡ t.y → s ≡ t
same_spot s t x y =
    let made : ℕ → ℕ → Spot = λ u v. record { x = u; y = v } in
    ap (λ k. made k s.y) x ∙ ap (λ k. made t.x k) y

-- two spots have one place, or not
pub same_place : (s t : Spot) → Decided ((s.x ≡ t.x) × (s.y ≡ t.y))
same_place s t = both (s.x ≡ t.x) (s.y ≡ t.y) (same_number s.x t.x) (same_number s.y t.y)

-- two spots are equal or not
pub cases_spot : (s t : Spot) → (s ≡ t) ⊎ (s ≢ t)
cases_spot s t =
    elim (same_place s t) [
      | inl same ↦ inl (same_spot s t same.0 same.1)
      | inr other ↦ inr (λ e. other (ap (λ q. q.x) e, ap (λ q. q.y) e))
    ]
