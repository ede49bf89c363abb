use Rattle.std.proofs.Common.{arith}
use Rattle.match_text.proofs.PlaceLemmas.{last_is}
use Rattle.match_text.proofs.way.last_place.Goals as goal

pub returns : goal.returns
returns c = last_is c.args.at c.args.further.now (omega (arith, c.if-further-eq0.false))
