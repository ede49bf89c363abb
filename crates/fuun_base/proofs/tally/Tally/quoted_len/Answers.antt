use Rattle.std.proofs.Common.{◌≡◌, ℕ, ◌-◌, List, arith, refl, ap, sym, ◌∙◌}
use Rattle.fuun_base.specs.declared.letters.Base.{Base}
use Rattle.fuun_base.specs.Quote.{protect}
use Rattle.fuun_base.specs.Tally.{tally_of, tally_total}
use Rattle.fuun_base.proofs.QuoteLemmas.{total_reached, total_at_end, total_of_none, reached_more}
use Rattle.fuun_base.proofs.tally.Tally.quoted_len.Goals as goal
use Rattle.fuun_base.proofs.tally.Tally.quoted_len.Goals.{then-left-eq0-via-then-left-eq0, then-left-eq0-via-else-left-eq0+then-len-eq0}

not_quoted : (level : ℕ) (d : List Base) → tally_of (protect (level - level) d) ≡ tally_of d
unfolding protect
not_quoted level d = let none : level - level ≡ 0 = omega arith in rw none refl

pub loop-tally-init : goal.loop-tally-init
loop-tally-init c = record {
  within = omega arith;
  small = omega arith;
  reached = λ d is. not_quoted c.args.level d ∙ is;
}

pub returns-then-len-cap : goal.returns-then-len-cap
returns-then-len-cap c d is =
    omega (arith, total_reached c.args.level c.loop-tally.left d c.loop-tally.tally c.loop-tally.invariant.within (c.loop-tally.invariant.reached d is), c.total-len.ensures)

pub returns-then-left-eq0 : goal.returns-then-left-eq0
returns-then-left-eq0 c d is =
    let reached = c.loop-tally.invariant.reached d is in
    elim c.then-left-eq0.branch [
      | then-left-eq0-via-then-left-eq0 w ↦
          (c.total-len.ensures ∙ total_at_end c.args.level c.loop-tally.left d c.loop-tally.tally (omega arith) reached, omega arith)
      | then-left-eq0-via-else-left-eq0+then-len-eq0 w ↦
          (c.total-len.ensures ∙ total_of_none c.args.level c.loop-tally.left d c.loop-tally.tally c.loop-tally.invariant.within (omega arith) reached, omega arith)
    ]

pub loop-tally-preserved : goal.loop-tally-preserved
loop-tally-preserved c = record {
  within = omega arith;
  small = omega (arith, ap tally_total c.quoted-tally.ensures);
  reached = λ d is.
      reached_more c.args.level c.loop-tally.left d c.loop-tally.tally (omega arith) c.loop-tally.invariant.within (c.loop-tally.invariant.reached d is) ∙ sym c.quoted-tally.ensures;
}
