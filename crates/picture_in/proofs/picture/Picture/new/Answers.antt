use Rattle.std.proofs.Common.{◌≡◌, ◌≤◌, ℕ, List, length, get_or, arith, sym, subst}
use Rattle.picture_in.specs.Pixmap.{ArePixels}
use Rattle.picture_in.proofs.PixmapLemmas.{IsPicture-pixels_of}
use Rattle.picture_in.proofs.picture.Picture.new.Goals as goal

are : (items pixels : List ℕ) → items ≡ pixels → length pixels ≡ 1080000 → ((k : ℕ) → get_or pixels k 0 ≤ 255) → ArePixels items
are items pixels same filled small = subst ArePixels (sym same) (record { filled = filled; small = small })

pub invariant_of-result : goal.invariant_of-result
invariant_of-result c = are c.in_ok-bytes.bytes.items c.args.pixels.now c.in_ok-bytes.ensures.items c.requires (λ k. omega (arith, c.type_inv.pixels k))

pub returns-clause-picture : goal.returns-clause-picture
returns-clause-picture c =
    IsPicture-pixels_of c.in_ok-bytes.bytes.items
    (are c.in_ok-bytes.bytes.items c.args.pixels.now c.in_ok-bytes.ensures.items c.requires (λ k. omega (arith, c.type_inv.pixels k)))
