-- What is drawn on the top bitmap.
use Rattle.std.proofs.Common.{◌≡◌, ℕ, List, [], ◌∷◌, refl, sym, subst, ap, ◌∙◌}
use Rattle.canvas.specs.Pixels.{Rgba}
use Rattle.canvas.specs.Buckets.{current_pixel}
use Rattle.flood.specs.Region.{IsFill}
use Rattle.layers.specs.Layers.{top_of}
use Rattle.layers.specs.Lending.{with_top}
use Rattle.painter.specs.Picture.{Picture, IsDrawn}

top_of-with_top : (layers : List (List Rgba)) (top : List Rgba) → top_of (with_top layers top) ≡ top
top_of-with_top [] top = refl
top_of-with_top (was ∷ below) top = refl

pub drawn : (p q : Picture) (how : List Rgba → List Rgba → Type 0) (now : List Rgba) → how (top_of p.layers) now → q ≡ record p { layers = with_top p.layers now } → IsDrawn p q how
drawn p q how now top is =
    let same : top_of q.layers ≡ now = ap (λ k. top_of k.layers) is ∙ top_of-with_top p.layers now in
    let P : List Rgba → Type 0 = λ t. how (top_of p.layers) t in
    record {
      top = subst P (sym same) top;
      others = is ∙ ap (λ t. let r : Picture = record p { layers = with_top p.layers t } in r) (sym same);
    }

-- a fill of the top bitmap
pub fill_drawn : (side : ℕ) (board p q : Picture) (was now : List Rgba) (pixel : Rgba) → board ≡ p → pixel ≡ current_pixel board.bucket → was ≡ top_of board.layers → IsFill side was board.at pixel now → q ≡ record board { layers = with_top board.layers now } → IsDrawn p q (λ old new. IsFill side old p.at (current_pixel p.bucket) new)
fill_drawn side board p q was now pixel same pixel_is was_is fill is =
    let W : List Rgba → Type 0 = λ old. IsFill side old board.at pixel now in
    let X : Rgba → Type 0 = λ x. IsFill side (top_of board.layers) board.at x now in
    let P : Picture → Type 0 = λ m. IsDrawn m q (λ old new. IsFill side old m.at (current_pixel m.bucket) new) in
    subst P same (drawn board q (λ old new. IsFill side old board.at (current_pixel board.bucket) new) now (subst X pixel_is (subst W was_is fill)) is)

pub drawn_once : (p q r : Picture) (how : List Rgba → List Rgba → Type 0) → ((a b : List Rgba) → how (top_of p.layers) a → how (top_of p.layers) b → a ≡ b) → IsDrawn p q how → IsDrawn p r how → q ≡ r
drawn_once p q r how one a b =
    let same : top_of q.layers ≡ top_of r.layers = one (top_of q.layers) (top_of r.layers) a.top b.top in
    a.others ∙ ap (λ t. let s : Picture = record p { layers = with_top p.layers t } in s) same ∙ sym b.others
