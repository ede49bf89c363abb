use Rattle.std.proofs.Common.{◌≡◌, ◌++◌, length, take, drop, replicate}
use Rattle.fuun_base.specs.declared.letters.Base.TheVariants.{C}
use Rattle.fuun_base.specs.Quote.{quote}
use Rattle.fuun_base.proofs.quoting.fill_quote.Given as goal

abbrev pub invariant-loop-base : goal.invariant-loop-base
invariant-loop-base l = record {
  place : l.at ≡ length (quote (take l.base-index l.source));
  written : l.slots ≡ quote (take l.base-index l.source) ++ replicate (length (quote (drop l.base-index l.source))) C;
}
