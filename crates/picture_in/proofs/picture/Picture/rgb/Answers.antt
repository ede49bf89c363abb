use Rattle.std.proofs.Common.{◌≡◌, ℕ, ◌+◌, ◌*◌, List, length, get_or, arith, refl, sym, ap, subst, ◌∙◌}
use Rattle.std.proofs.lemmas.List.{get_or_default}
use Rattle.picture_in.specs.Pixmap.{Rgb, IsPicture, pixels_of, rgb_at}
use Rattle.picture_in.proofs.PixmapLemmas.{IsPicture-pixels_of, at_place, pixel_at_place}
use Rattle.picture_in.proofs.picture.Picture.rgb.Goals as goal

pub returns-clause-value : goal.returns-clause-value
returns-clause-value c =
    let bytes : List ℕ = c.self.inside.bytes.items in
    let x = c.args.spot.x in
    let y = c.args.spot.y in
    let start : ℕ = 3 * (y * 600 + x) in
    let filled : length bytes ≡ 1080000 = c.self.invariant.filled in
    let red : c.index.result.now ≡ get_or bytes start 0 = c.index.ensures ∙ get_or_default bytes start _ 0 (omega arith) in
    let green : c.index-2.result.now ≡ get_or bytes (start + 1) 0 = c.index-2.ensures ∙ get_or_default bytes (start + 1) _ 0 (omega arith) in
    let blue : c.index-3.result.now ≡ get_or bytes (start + 2) 0 = c.index-3.ensures ∙ get_or_default bytes (start + 2) _ 0 (omega arith) in
    let read : at_place bytes start ≡ rgb_at (pixels_of bytes) x y = sym (pixel_at_place bytes (y * 600 + x) start refl (omega arith)) in
    let triple : ℕ → ℕ → ℕ → Rgb = λ r g b. (r, g, b) in
    ap (λ r. triple r c.index-2.result.now c.index-3.result.now) red
    ∙ ap (λ g. triple (get_or bytes start 0) g c.index-3.result.now) green
    ∙ ap (triple (get_or bytes start 0) (get_or bytes (start + 1) 0)) blue
    ∙ read
    ∙ ap (λ picture. rgb_at picture x y) c.self.view_is

pub returns-clause-picture : goal.returns-clause-picture
returns-clause-picture c = subst IsPicture c.self.view_is (IsPicture-pixels_of c.self.inside.bytes.items c.self.invariant)
