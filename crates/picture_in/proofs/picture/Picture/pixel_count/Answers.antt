use Rattle.std.proofs.Common.{◌≡◌, ℕ, List, length, arith, subst, ap}
use Rattle.picture_in.specs.Pixmap.{IsPicture, pixels_of}
use Rattle.picture_in.proofs.PixmapLemmas.{IsPicture-pixels_of}
use Rattle.picture_in.proofs.picture.Picture.pixel_count.Goals as goal

pub returns-clause-count : goal.returns-clause-count
returns-clause-count c =
    let bytes : List ℕ = c.self.inside.bytes.items in
    let is = IsPicture-pixels_of bytes c.self.invariant in
    let count : length (pixels_of bytes) ≡ 360000 = is.filled in
    omega (arith, c.self.invariant.filled, ap length c.self.view_is)

pub returns-clause-picture : goal.returns-clause-picture
returns-clause-picture c = subst IsPicture c.self.view_is (IsPicture-pixels_of c.self.inside.bytes.items c.self.invariant)
