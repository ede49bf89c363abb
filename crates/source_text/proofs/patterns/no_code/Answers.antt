use Rattle.std.proofs.Common.{◌∙◌, arith, false, sym}
use Rattle.source_text.specs.Judging.{no_code}
use Rattle.source_text.proofs.NoCodeLemmas.{all_closed, behind_few, goes_on, refused_at, some_open}
use Rattle.source_text.proofs.patterns.no_code.Goals as goal

pub returns-then-refuses : goal.returns-then-refuses
returns-then-refuses c =
    refused_at c.args.arrow c.pieces.groups c.pieces.piece-index c.pieces.search c.args.pieces.now c.piece-item.result (no_code c.args.arrow 0 false c.args.pieces.now)
    c.pieces-test.true c.piece-item.is (sym c.refuses.ensures ∙ c.if-refuses.true) c.pieces.invariant.same

pub pieces-preserved : goal.pieces-preserved
pieces-preserved c = record {
  few = omega (arith, c.behind_piece-groups.ensures, behind_few c.pieces.groups c.piece-item.result.item, c.pieces.invariant.few);
  same =
      goes_on c.args.arrow c.pieces.groups c.behind_piece-groups.result c.pieces.piece-index c.pieces.search c.is_search-search.result c.args.pieces.now c.piece-item.result
      (no_code c.args.arrow 0 false c.args.pieces.now) c.pieces-test.true c.piece-item.is (sym c.refuses.ensures ∙ c.if-refuses.false) c.behind_piece-groups.ensures c.is_search-search.ensures
      c.pieces.invariant.same;
}

pub returns-then-groups-eq0 : goal.returns-then-groups-eq0
returns-then-groups-eq0 c =
    all_closed c.args.arrow c.pieces.groups c.pieces.piece-index c.pieces.search c.args.pieces.now (no_code c.args.arrow 0 false c.args.pieces.now) c.pieces-test.false c.if-groups-eq0.true c.pieces.invariant.same

pub returns-else-groups-eq0 : goal.returns-else-groups-eq0
returns-else-groups-eq0 c =
    some_open c.args.arrow c.pieces.groups c.pieces.piece-index c.pieces.search c.args.pieces.now (no_code c.args.arrow 0 false c.args.pieces.now) c.pieces-test.false c.if-groups-eq0.false c.pieces.invariant.same
