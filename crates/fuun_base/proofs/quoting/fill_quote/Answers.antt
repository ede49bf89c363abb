use Rattle.std.proofs.Common.{◌≡◌, ◌+◌, ◌++◌, length, take, drop, set, replicate, get_or, arith, ap, sym, subst, length-append}
use Rattle.fuun_base.specs.declared.letters.Base.{Base}
use Rattle.fuun_base.specs.declared.letters.Base.TheVariants.{I, C}
use Rattle.fuun_base.specs.Quote.{quote, quote_of}
use Rattle.fuun_base.proofs.QuoteLemmas.{quote_more, filled_more}
use Rattle.fuun_base.proofs.quoting.fill_quote.Goals as goal

pub loop-base-preserved : goal.loop-base-preserved
loop-base-preserved c =
    let d = c.args.source.now in
    let i = c.loop-base.base-index in
    record {
      place = omega (arith, ap length (quote_more d i I c.loop-base-test.true), length-append (quote (take i d)) (quote_of (get_or d i I)), c.base_len-at.ensures.len, c.loop-base.invariant.place);
      written = subst (λ (b : Base). set c.loop-base.slots c.loop-base.at b ≡ quote (take (i + 1) d) ++ replicate (length (quote (drop (i + 1) d))) C) (sym c.first_of_quote.ensures)
          (filled_more d c.loop-base.slots i c.loop-base.at I c.loop-base-test.true c.loop-base.invariant.place c.loop-base.invariant.written);
    }
