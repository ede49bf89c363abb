use Rattle.std.proofs.Common.{◌≡◌, ◌-◌, ◌≤◌, ◌^◌, List}
use Rattle.fuun_base.specs.declared.letters.Base.{Base}
use Rattle.fuun_base.specs.Quote.{protect}
use Rattle.fuun_base.specs.Tally.{tally_of, tally_total}
use Rattle.fuun_base.proofs.tally.Tally.quoted_len.Given as goal

abbrev pub invariant-loop-tally : goal.invariant-loop-tally
invariant-loop-tally l = record {
  within : l.left ≤ l.level;
  small : tally_total l.tally ≤ 2 ^ 42;
  reached : (d : List Base) → tally_of d ≡ l.fn.self → tally_of (protect (l.level - l.left) d) ≡ l.tally;
}

abbrev pub decreases-loop-tally : goal.decreases-loop-tally
decreases-loop-tally l = l.left
