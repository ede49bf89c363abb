use Rattle.std.proofs.Common.{sym}
use Rattle.picture_in.proofs.PixmapLemmas.{length-pixel_bytes}
use Rattle.picture_in.proofs.picture.read_ppm.Goals as goal

pub new-requires : goal.new-requires
new-requires c = length-pixel_bytes c.args.bytes.now c.in-Some.pixels.now (sym c.in-Some.ensures)
