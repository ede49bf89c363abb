use Rattle.std.proofs.Common.{◌≡◌, ◌+◌, ◌∙◌, [], ap, arith, drop, length, rules, sym}
use Rattle.fuun_base.specs.Lines.{lines}
use Rattle.source_tokens.specs.Statements.{statements_from}
use Rattle.source_tokens.proofs.LineLemmas.{line_read, nothing_said, something_said}
use Rattle.source_tokens.proofs.statements.next_from.Goals as goal

pub returns-then-not-is_empty-clause-next : goal.returns-then-not-is_empty-clause-next
returns-then-not-is_empty-clause-next c =
    let line = c.first_line.result.0.now in
    let rest = c.rest_from.ensures in
    let some : c.in_ok-tokens.tokens ≡ [] → ⊥ = search rules in
    c.lines.invariant.left
    ∙ line_read c.lines.names c.line_tokens.new.names c.lines.place c.min-place.result c.in_ok-tokens.end c.args.text.now line c.first_line.result.1.now c.in_ok-tokens.tokens
    (ap lines (sym rest) ∙ c.first_line.ensures.lines) (c.first_line.ensures.rest ∙ ap (drop (length line + 1)) rest) c.min-place.ensures c.in_ok-tokens.ensures.tokens c.in_ok-tokens.ensures.end c.in_ok-tokens.ensures.met
    ∙ something_said c.in_ok-tokens.tokens c.in_ok-tokens.end (statements_from c.line_tokens.new.names c.min-place.result c.args.text.now) some

pub lines-preserved : goal.lines-preserved
lines-preserved c =
    let line = c.first_line.result.0.now in
    let rest = c.rest_from.ensures in
    let none : c.in_ok-tokens.tokens ≡ [] = search rules in
    record {
      within = omega arith;
      left =
          c.lines.invariant.left
          ∙ line_read c.lines.names c.line_tokens.new.names c.lines.place c.min-place.result c.in_ok-tokens.end c.args.text.now line c.first_line.result.1.now c.in_ok-tokens.tokens
          (ap lines (sym rest) ∙ c.first_line.ensures.lines) (c.first_line.ensures.rest ∙ ap (drop (length line + 1)) rest) c.min-place.ensures c.in_ok-tokens.ensures.tokens c.in_ok-tokens.ensures.end c.in_ok-tokens.ensures.met
          ∙ nothing_said c.in_ok-tokens.tokens c.in_ok-tokens.end (statements_from c.line_tokens.new.names c.min-place.result c.args.text.now) none;
    }
