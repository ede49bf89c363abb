use Rattle.std.proofs.Common.{◌≡◌, arith, rules, sym, subst}
use Rattle.explainer.specs.Passing.{LeadTo, PassesSo}
use Rattle.explainer.proofs.ByItems.{gone_within, gone_open, gone_on, gone_through}
use Rattle.explainer.proofs.matching.match_cells.Goals as goal

pub pass-requires : goal.pass-requires
pass-requires c = gone_within c.args.dna.now c.args.items.now c.loop-item.item-index c.loop-item.at _ _ c.loop-item.invariant

pub mark-requires : goal.mark-requires
mark-requires c stop =
    gone_open c.args.dna.now c.args.items.now c.loop-item.item-index c.loop-item.at _ _ c.item-item.result c.loop-item.invariant c.requires c.loop-item-test.true c.item-item.is stop

pub loop-item-preserved : goal.loop-item-preserved
loop-item-preserved c =
    gone_on c.args.dna.now c.args.items.now c.loop-item.item-index c.loop-item.at c.in-To.place c.loop-item.marks.starts.items c.mark.new.self.starts.items c.loop-item.marks.ended.items c.mark.new.self.ended.items
    c.item-item.result c.loop-item.invariant c.loop-item-test.true c.item-item.is (subst (PassesSo c.args.dna.now c.item-item.result c.loop-item.at) c.in-To.is c.in_ok-place.ensures) c.in_ok-mark-in-To.ensures

pub returns : goal.returns
returns c =
    let same : c.from_vec.result ≡ c.loop-item.marks.ended.items = search rules in
    subst (LeadTo c.args.dna.now c.args.items.now c.loop-item.at) (sym same)
    (gone_through c.args.dna.now c.args.items.now c.loop-item.item-index c.loop-item.at c.loop-item.marks.starts.items c.loop-item.marks.ended.items c.loop-item.invariant (omega (arith, c.loop-item-test.false, c.loop-item.auto.item-index-end)))
