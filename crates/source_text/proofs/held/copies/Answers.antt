use Rattle.std.proofs.Common.{◌≡◌, true, [], ap, length, rules, sym, ◌∙◌, ◌++◌}
use Rattle.std.proofs.lemmas.Bool.{eqb-true}
use Rattle.source_text.specs.Pieces.{times}
use Rattle.source_text.proofs.PieceLemmas.{nil_of, times_more, times_none}
use Rattle.source_text.proofs.held.copies.Goals as goal

pub returns-then-is_empty : goal.returns-then-is_empty
returns-then-is_empty c =
    let none : c.args.pieces.now ≡ [] = nil_of c.args.pieces.now (eqb-true (length c.args.pieces.now) 0 (sym c.is_empty.ensures ∙ c.if-is_empty.true)) in
    let keep : c.args.keep ≡ true = search rules in
    rw (keep, none, times_none c.args.n) c.new-items.ensures.items

pub copies-init : goal.copies-init
unfolding times
copies-init c = c.new-items.ensures.items

pub copies-preserved : goal.copies-preserved
copies-preserved c =
    times_more c.copies._time c.args.pieces.now c.append_copies.new.out.items (c.in_ok-append_copies.ensures ∙ ap (λ items. items ++ c.args.pieces.now) c.copies.invariant)
