use Rattle.std.proofs.Common.{◌≡◌, ◌+◌, ◌-◌, ◌≤◌, arith, take, drop, length, subst, sym, ◌∙◌, length-drop, ◌∷◌}
use Rattle.std.proofs.lemmas.List.{take_rest}
use Rattle.std.proofs.lemmas.Result.{MatchResult-from_err}
use Rattle.fuun_io.specs.Written.{PutsFront, appended}
use Rattle.match_text.specs.Way.{part_line, parts}
use Rattle.match_text.proofs.PlaceLemmas.{last_taken}
use Rattle.match_text.proofs.WayLemmas.{Written, written_matches, written_fails, written_more, written_part}
use Rattle.match_text.proofs.way.put_way.Goals as goal

pub returns-in_err-put_part-clause-puts : goal.returns-in_err-put_part-clause-puts
returns-in_err-put_part-clause-puts g c =
    let n = c.part_len-len.result in
    let next = c.parts.next in
    let one : next + n - next ≡ n = omega arith in
    let rest = take_rest c.args.items.now next in
    let first = subst (λ l. parts l ≡ take n l ∷ parts (drop n l)) rest c.part_len-len.ensures.first in
    MatchResult-from_err c.from_residual.result _ _ c.from_residual.ensures.0
    (λ _. written_part c.args.items.now c.args.places.now next c.parts.at n _ _ _ c.parts.invariant.written first
    (subst (λ k. PutsFront (g.S.Sink.bytes c.parts.sink) (g.S.Sink.bytes c.put_part.new.sink) (part_line (take k (drop next c.args.items.now)) c.parts.at (drop next c.args.places.now))) one (subst (λ l. PutsFront (g.S.Sink.bytes c.parts.sink) (g.S.Sink.bytes c.put_part.new.sink) (part_line (take (next + n - next) (drop next c.args.items.now)) c.parts.at l)) (take_rest c.args.places.now next) c.in_err-put_part.ensures.puts)))

pub returns-then-places-next-clause-puts : goal.returns-then-places-next-clause-puts
returns-then-places-next-clause-puts g c =
    let n = c.part_len-len.result in
    let next = c.parts.next in
    let one : next + n - next ≡ n = omega arith in
    let rest = take_rest c.args.items.now next in
    let first = subst (λ l. parts l ≡ take n l ∷ parts (drop n l)) rest c.part_len-len.ensures.first in
    written_fails c.args.items.now c.args.places.now next c.parts.at n _ _ _ _ c.put_all.result c.parts.invariant.written
    (subst (λ k. n ≤ k) (length-drop next c.args.items.now) (subst (λ l. n ≤ length l) rest c.part_len-len.ensures.within)) c.if-places-next.true first
    (subst (λ k. (g.S.Sink.bytes c.put_part.new.sink) ≡ appended (g.S.Sink.bytes c.parts.sink) (part_line (take k (drop next c.args.items.now)) c.parts.at (drop next c.args.places.now))) one (subst (λ l. (g.S.Sink.bytes c.put_part.new.sink) ≡ appended (g.S.Sink.bytes c.parts.sink) (part_line (take (next + n - next) (drop next c.args.items.now)) c.parts.at l)) (take_rest c.args.places.now next) c.in_ok-put_part.ensures.puts))
    c.put_all.ensures.puts

pub parts-preserved : goal.parts-preserved
parts-preserved g c =
    let n = c.part_len-len.result in
    let next = c.parts.next in
    let one : next + n - next ≡ n = omega arith in
    let rest = take_rest c.args.items.now next in
    let first = subst (λ l. parts l ≡ take n l ∷ parts (drop n l)) rest c.part_len-len.ensures.first in
    let few : n ≤ length c.args.places.now - next = omega (arith, c.if-places-next.false) in
    record {
      written = subst (λ at. Written c.args.items.now c.args.places.now (next + n) at (g.S.Sink.bytes c.args.sink.now) (g.S.Sink.bytes c.put_part.new.sink)) (sym (last_taken c.args.places.now next c.parts.at n c.part_len-len.ensures.some few))
          (written_more c.args.items.now c.args.places.now next c.parts.at n _ _ _ c.parts.invariant.written
          (subst (λ k. n ≤ k) (length-drop next c.args.items.now) (subst (λ l. n ≤ length l) rest c.part_len-len.ensures.within)) few first
          (subst (λ k. (g.S.Sink.bytes c.put_part.new.sink) ≡ appended (g.S.Sink.bytes c.parts.sink) (part_line (take k (drop next c.args.items.now)) c.parts.at (drop next c.args.places.now))) one (subst (λ l. (g.S.Sink.bytes c.put_part.new.sink) ≡ appended (g.S.Sink.bytes c.parts.sink) (part_line (take (next + n - next) (drop next c.args.items.now)) c.parts.at l)) (take_rest c.args.places.now next) c.in_ok-put_part.ensures.puts)));
      faults = c.in_ok-put_part.ensures.cause ∙ c.parts.invariant.faults;
    }

pub returns-clause-puts : goal.returns-clause-puts
returns-clause-puts g c =
    written_matches c.args.items.now c.args.places.now c.parts.next c.parts.at _ _ _ c.put_all-2.result c.parts.invariant.written
    (omega (arith, c.parts-test.false)) c.put_all-2.ensures.puts
