use Rattle.std.proofs.Common.{◌≡◌, ◌++◌, length, arith, ap, sym, ◌∙◌}
use Rattle.std.proofs.lemmas.Grind.{common_steps}
use Rattle.fuun_base.specs.Quote.{asnat}
use Rattle.fuun_base.proofs.AsnatLemmas.{asnat-zero, asnat-digit, length-asnat_le}
use Rattle.fuun_base.proofs.quoting.asnat_into.Goals as goal

pub loop-left-init : goal.loop-left-init
loop-left-init c = record {
  added = ap (λ l. l ++ asnat c.args.n) c.reserve.ensures.items;
  room = omega (arith, length-asnat_le 64 c.args.n c.ranges.n.fits, c.in_ok-reserve.ensures.ok);
}

pub push_reserved-requires : goal.push_reserved-requires
push_reserved-requires c = omega (arith, ap length (asnat-digit c.loop-left.left c.loop-left-test.true))

pub loop-left-preserved : goal.loop-left-preserved
loop-left-preserved c =
    let digit = asnat-digit c.loop-left.left c.loop-left-test.true in
    record {
      added = grind (arith, common_steps, digit);
      room = omega (arith, ap length digit);
    }

pub push_reserved-requires-2 : goal.push_reserved-requires-2
push_reserved-requires-2 c =
    let none : c.loop-left.left ≡ 0 = omega arith in
    omega (arith, ap length (ap asnat none ∙ asnat-zero))

pub returns-clause-added : goal.returns-clause-added
returns-clause-added c =
    let none : c.loop-left.left ≡ 0 = omega arith in
    c.push_reserved-2.ensures.items ∙ ap (λ l. c.loop-left.out.items ++ l) (sym (ap asnat none ∙ asnat-zero)) ∙ c.loop-left.invariant.added
