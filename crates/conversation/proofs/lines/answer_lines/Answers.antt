use Rattle.std.proofs.Common.{◌+◌, ◌++◌, length, arith, rules, sym, ap, subst, length-drop}
use Rattle.conversation.specs.Cut.{NoFeed}
use Rattle.conversation.proofs.AnswerLemmas.{none_answered, on_err}
use Rattle.conversation.proofs.BehindLemmas.{broken_waiting, free_more}
use Rattle.fuun_base.specs.Lines.{lines}
use Rattle.conversation.proofs.FeedLemmas.{none_found, split_first}
use Rattle.conversation.proofs.PieceLemmas.{broken_line, waits_line}
use Rattle.conversation.proofs.lines.answer_lines.Goals as goal

pub returns-in_err-extend_from_slice-clause-broke : goal.returns-in_err-extend_from_slice-clause-broke
returns-in_err-extend_from_slice-clause-broke g c =
    on_err c.from_residual-in_err-extend_from_slice.result _
    (broken_waiting g.A.Answerer.says c.args.answerer.now c.loop-end.answerer (c.args.waiting.now.items ++ c.args.piece.now) (c.loop-end.waiting.items ++ c.loop-end.rest.now) (g.K.Sink.bytes c.args.sink.now) (g.K.Sink.bytes c.loop-end.sink) (g.K.Sink.bytes c.loop-end.sink)
    c.loop-end.invariant.waits (none_answered g.A.Answerer.says c.loop-end.answerer (lines (c.loop-end.waiting.items ++ c.loop-end.rest.now)) (g.K.Sink.bytes c.loop-end.sink)))

pub returns-in_err-answer_line-clause-broke : goal.returns-in_err-answer_line-clause-broke
returns-in_err-answer_line-clause-broke g c =
    on_err c.from_residual.result _
    (broken_line g.A.Answerer.says c.args.answerer.now c.loop-end.answerer (c.args.waiting.now.items ++ c.args.piece.now) c.loop-end.waiting.items c.loop-end.rest.now c.in-Some.end (g.K.Sink.bytes c.args.sink.now) (g.K.Sink.bytes c.loop-end.sink) (g.K.Sink.bytes c.answer_line.new.sink)
    c.in-Some.ensures c.loop-end.invariant.unended c.loop-end.invariant.waits c.in_err-answer_line.ensures.broke)

pub overflow_add-end : goal.overflow_add-end
overflow_add-end g c =
    let found = split_first c.loop-end.rest.now c.in-Some.end (sym c.in-Some.ensures) in
    omega (arith, found.0)

pub loop-end-preserved : goal.loop-end-preserved
loop-end-preserved g c = record {
  shorter = omega (arith, ap length c.rest_from-rest.ensures, length-drop (c.in-Some.end + 1) c.loop-end.rest.now);
  unended = subst NoFeed (sym c.in_ok-answer_line.ensures.cleared) tt;
  waits = waits_line g.A.Answerer.says c.args.answerer.now c.loop-end.answerer c.answer_line.new.answerer (c.args.waiting.now.items ++ c.args.piece.now) c.loop-end.waiting.items c.loop-end.rest.now c.answer_line.new.waiting.items _ c.in-Some.end (g.K.Sink.bytes c.args.sink.now) (g.K.Sink.bytes c.loop-end.sink) (g.K.Sink.bytes c.answer_line.new.sink)
      c.in-Some.ensures c.loop-end.invariant.unended c.in_ok-answer_line.ensures.cleared c.rest_from-rest.ensures c.loop-end.invariant.waits c.in_ok-answer_line.ensures.told;
  faults = search rules;
}

pub returns-clause-unended : goal.returns-clause-unended
returns-clause-unended g c =
    subst NoFeed (sym c.in_ok-extend_from_slice.ensures.items) (free_more c.loop-end.waiting.items c.loop-end.rest.now c.loop-end.invariant.unended (none_found c.loop-end.rest.now c.in_default.ensures))
