use Rattle.std.proofs.Common.{ℕ, ◌≤◌, List, Option, refl, sym, ap, subst, arith, rules}
use Rattle.std.proofs.lemmas.Result.{on_err_weaker, on_ok_weaker}
use Rattle.conversation.proofs.AnswerLemmas.{on_err}
use Rattle.conversation.proofs.TalkLemmas.{TalkedSoFar, broken_last, broken_none, broken_piece, front_seen, kept_at_none, talked_more, talked_none, talked_to_cap, talked_to_end}
use Rattle.conversation.proofs.talking.converse.Goals as goal

pub loop-at-init : goal.loop-at-init
loop-at-init g c =
    let says = g.A.Answerer.says in
    let contents = g.F.Folder.contents c.args.folder.now c.args.name.now in
    let count = g.F.Folder.given c.args.folder.now in
    let told = g.K.Sink.bytes c.args.sink.now in
    record {
      room = search rules;
      talked = subst (λ (l : List ℕ). TalkedSoFar says contents c.args.cap count count 0 c.args.answerer.now c.args.answerer.now l told told) (sym c.new-waiting.ensures.items) (talked_none says contents c.args.cap count c.args.answerer.now told);
      read_faults = refl;
      write_faults = refl;
      contents = refl;
      allows = refl;
    }

pub returns-in_err-count-clause-broke : goal.returns-in_err-count-clause-broke
returns-in_err-count-clause-broke g c =
    on_err c.from_residual-in_err-count.result _
    (broken_none _ _ _ _ _ _ _ _ _ _ _ _ c.in_err-count.ensures.none_given c.loop-at.invariant.talked)

pub returns-then-count-eq0-clause-talked : goal.returns-then-count-eq0-clause-talked
returns-then-count-eq0-clause-talked g c =
    on_ok_weaker c.answer_last.result
    (λ told. talked_to_end _ _ _ _ _ _ _ _ c.in_ok-count.count _ _ _ _ _ _ _ _ _ (ap (λ (f : List ℕ → Option (List ℕ)). f c.args.name.now) c.loop-at.invariant.contents) c.if-count-eq0.true c.in_ok-count.ensures.bytes
    (kept_at_none _ _ c.in_ok-count.count c.if-count-eq0.true c.in_ok-count.ensures.given) c.deref.ensures.value told c.loop-at.invariant.talked)
    c.answer_last.ensures.told

pub returns-then-count-eq0-clause-broke : goal.returns-then-count-eq0-clause-broke
returns-then-count-eq0-clause-broke g c =
    on_err_weaker c.answer_last.result
    (λ broke. broken_last _ _ _ _ _ _ _ _ _ _ _ _ _ _ (kept_at_none _ _ c.in_ok-count.count c.if-count-eq0.true c.in_ok-count.ensures.given) c.deref.ensures.value broke c.loop-at.invariant.talked)
    c.answer_last.ensures.broke

pub returns-in_err-answer_lines-clause-broke : goal.returns-in_err-answer_lines-clause-broke
returns-in_err-answer_lines-clause-broke g c =
    let bound = c.in_ok-count.ensures.bound in
    let fits : c.in_ok-count.count ≤ c.loop-at.buffer.len = omega (arith, bound) in
    on_err c.from_residual-in_err-answer_lines.result _
    (broken_piece _ _ _ _ _ _ _ _ c.in_ok-count.count _ _ _ _ _ _ _ _ (ap (λ (f : List ℕ → Option (List ℕ)). f c.args.name.now) c.loop-at.invariant.contents) bound (front_seen _ _ _ _ _ bound fits c.deref-in-loop-at.ensures.value)
    c.in_ok-count.ensures.within c.in_ok-count.ensures.bytes c.in_ok-count.ensures.given c.in_err-answer_lines.ensures.broke c.loop-at.invariant.talked)

pub loop-at-preserved : goal.loop-at-preserved
loop-at-preserved g c =
    let bound = c.in_ok-count.ensures.bound in
    let fits : c.in_ok-count.count ≤ c.loop-at.buffer.len = omega (arith, bound) in
    record {
      room = omega arith;
      talked = talked_more _ _ _ _ _ _ _ _ c.in_ok-count.count _ _ _ _ _ _ _ _ _ _ (ap (λ (f : List ℕ → Option (List ℕ)). f c.args.name.now) c.loop-at.invariant.contents) bound (front_seen _ _ _ _ _ bound fits c.deref-in-loop-at.ensures.value)
          c.in_ok-count.ensures.within c.in_ok-count.ensures.bytes c.in_ok-count.ensures.given c.in_ok-answer_lines.ensures.unended c.in_ok-answer_lines.ensures.waits c.loop-at.invariant.talked;
      read_faults = search rules;
      write_faults = search rules;
      contents = search rules;
      allows = search rules;
    }

pub returns-clause-talked : goal.returns-clause-talked
returns-clause-talked g c =
    on_ok_weaker c.answer_last-2.result (λ told. talked_to_cap _ _ _ _ _ _ _ _ _ _ _ _ _ _ c.loop-at-test.false c.deref-2.ensures.value told c.loop-at.invariant.talked) c.answer_last-2.ensures.told

pub returns-clause-broke : goal.returns-clause-broke
returns-clause-broke g c =
    on_err_weaker c.answer_last-2.result (λ broke. broken_last _ _ _ _ _ _ _ _ _ _ _ _ _ _ refl c.deref-2.ensures.value broke c.loop-at.invariant.talked) c.answer_last-2.ensures.broke
