use Rattle.std.proofs.Common.{◌≡◌, ◌+◌, ◌*◌, ◌≤◌, ◌++◌, length, drop}
use Rattle.replacer.specs.Costs.{cost}
use Rattle.replacer.specs.Cuts.{AreCuts}
use Rattle.replacer.specs.Replacement.{replacement, texts_of}
use Rattle.replacer.proofs.replacing.put_all.Given as goal

abbrev pub invariant-loop-item : goal.invariant-loop-item
invariant-loop-item g l =
    let texts = texts_of (g.S.Strand.bases l.s) l.groups in
    let most = g.S.Strand.height_bound g.most in record {
      bases : (g.S.Strand.bases l.front.done ++ l.front.waiting.items) ++ replacement texts (drop l.item-index l.tpl) ≡ replacement texts l.tpl;
      cuts : AreCuts g.S.Strand.bases g.S.Strand.height g.S.Strand.height_bound texts l.cuts.made.items;
      height : g.S.Strand.height l.front.done ≤ most;
      counts : l.fn.steps ≤ l.steps;
      paid : l.steps + 2 * length l.front.waiting.items + cost most texts (drop l.item-index l.tpl) ≤ l.fn.steps + cost most texts l.tpl;
    }

abbrev pub ghost-put : goal.ghost-put
ghost-put g a = g.most

abbrev pub ghost-joined : goal.ghost-joined
ghost-joined g a = g.most
