use Rattle.std.proofs.Common.{◌∙◌}
use Rattle.std.proofs.lemmas.Result.{MatchResult-from_err}
use Rattle.explainer.specs.Lines.{seg_line}
use Rattle.explainer.proofs.ByParts.{lines_more, lines_part}
use Rattle.explainer.proofs.writing.put_segs.Goals as goal

pub returns-in_err-put_seg-clause-puts : goal.returns-in_err-put_seg-clause-puts
returns-in_err-put_seg-clause-puts g c =
    MatchResult-from_err c.from_residual.result _ _ c.from_residual.ensures.0
    (λ _. lines_part seg_line c.args.segs.now c.loop-seg.seg-index c.seg-item.result _ _ _ c.loop-seg-test.true c.seg-item.is c.loop-seg.invariant.put c.in_err-put_seg.ensures.puts)

pub loop-seg-preserved : goal.loop-seg-preserved
loop-seg-preserved g c = record {
  put = lines_more seg_line c.args.segs.now c.loop-seg.seg-index c.seg-item.result _ _ _ c.loop-seg-test.true c.seg-item.is c.loop-seg.invariant.put c.in_ok-put_seg.ensures.puts;
  faults = c.in_ok-put_seg.ensures.cause ∙ c.loop-seg.invariant.faults;
}
