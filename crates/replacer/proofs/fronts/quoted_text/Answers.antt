use Rattle.std.proofs.Common.{◌++◌, ap, arith, refl, sym, ◌∙◌}
use Rattle.fuun_base.specs.Quote.{quote}
use Rattle.fuun_base.proofs.QuoteLemmas.{protect_more}
use Rattle.replacer.proofs.PutLengths.{quoted_once}
use Rattle.replacer.proofs.fronts.quoted_text.Goals as goal

pub loop-init : goal.loop-init
loop-init c = record {
  some = omega arith;
  most = c.requires;
  is = c.in_ok-quote_into.ensures.added ∙ ap (λ l. l ++ quote c.args.text.now) c.new-quoted.ensures.items ∙ quoted_once c.args.text.now 1 refl;
}

pub loop-preserved : goal.loop-preserved
loop-preserved c = record {
  some = omega arith;
  most = omega (arith, c.loop-test.true);
  is =
      c.in_ok-quote_into-2.ensures.added ∙ ap (λ l. l ++ quote c.as_slice.result.now) c.new-more.ensures.items
      ∙ ap quote (c.as_slice.ensures.value ∙ c.loop.invariant.is) ∙ sym (protect_more c.loop.counter c.args.text.now);
}
