use Rattle.std.proofs.Common.{◌+◌, subst, arith}
use Rattle.explainer.specs.Windows.{AreOut}
use Rattle.explainer.specs.Passing.{PassesSo}
use Rattle.explainer.specs.declared.passing.Passing.{Passing}
use Rattle.dna_items.specs.declared.items.PatItem.TheVariants.{Search}
use Rattle.explainer.proofs.FitLemmas.{out_join}
use Rattle.explainer.proofs.OpenLemmas.{ok_map, passes_later}
use Rattle.explainer.proofs.searching.search_by.Goals as goal

pub loop-place-preserved : goal.loop-place-preserved
loop-place-preserved c =
    let s = c.args.needle.now in
    let z = c.args.dna.now in
    let at = c.args.at in
    let place = c.loop-place.place in
    let past = place + c.past_other.result in
    let next = c.next_place-place-in-Out.result in
    record {
      after = omega (arith, c.loop-place.invariant.after, c.next_place-place-in-Out.ensures.after);
      within = c.next_place-place-in-Out.ensures.within;
      out = out_join s z at past next (out_join s z at place past c.loop-place.invariant.out c.past_other.ensures.out)
          (subst (λ t. AreOut t z past next) c.requires.table c.next_place-place-in-Out.ensures.out);
    }

pub returns-then-spare-other : goal.returns-then-spare-other
returns-then-spare-other c =
    let s = c.args.needle.now in
    let z = c.args.dna.now in
    ok_map c.search_along.result (λ (passing : Passing). PassesSo z (Search s) c.loop-place.place passing) (λ (passing : Passing). PassesSo z (Search s) c.args.at passing) c.search_along.ensures
    (λ passing passes. passes_later s z c.args.at c.loop-place.place passing c.loop-place.invariant.after c.loop-place.invariant.out passes)
