use Rattle.std.proofs.Common.{refl}
use Rattle.painter.specs.Picture.{Picture}
use Rattle.painter.proofs.Drawings.{fill_drawn}
use Rattle.painter.proofs.board.Board.fill.Goals as goal

pub returns : goal.returns
returns g c =
    let inside = c.self.inside in
    let board : Picture = record { bucket = inside.bucket; at = inside.position; mark = inside.mark; facing = inside.facing; layers = inside.layers } in
    fill_drawn g.row.SIDE board c.args.self.now _ c.top_mut-top.result.now c.fill.new.bitmap c.pixel-pixel.result c.self.view_is c.pixel-pixel.ensures c.top_mut-top.ensures.value c.fill.ensures.fill refl
