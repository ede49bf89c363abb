use Rattle.std.proofs.Common.{◌∙◌, sym, arith}
use Rattle.listing.proofs.TextLemmas.{small_text, big_text}
use Rattle.listing.proofs.numbers.number.Goals as goal

pub returns-then-n-lt-BIG : goal.returns-then-n-lt-BIG
returns-then-n-lt-BIG c = c.as_bytes.ensures.value ∙ c.format.ensures.text ∙ sym (small_text c.args.n (omega (arith, c.if-n-lt-BIG.true)))

pub returns-else-n-lt-BIG : goal.returns-else-n-lt-BIG
returns-else-n-lt-BIG c = sym (big_text c.args.n (omega (arith, c.if-n-lt-BIG.false)))
