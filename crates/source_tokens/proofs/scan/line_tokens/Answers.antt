use Rattle.std.proofs.Common.{◌∙◌, ap, arith, length, length-drop, sym}
use Rattle.source_tokens.specs.Statements.{line_scan}
use Rattle.source_tokens.specs.Words.{word_at}
use Rattle.source_tokens.proofs.WordLemmas.{blank_more, scan_end, word_more}
use Rattle.source_tokens.proofs.scan.line_tokens.Goals as goal

pub words-preserved-then-is_blank : goal.words-preserved-then-is_blank
words-preserved-then-is_blank c = record {
  within = omega arith;
  scanned =
      blank_more (record { tokens = c.words.tokens; end = c.words.end; met = c.words.names }) (line_scan c.args.names.now c.args.at c.args.line.now) c.args.at c.words.place c.args.line.now
      c.words-test.true (sym c.is_blank.ensures ∙ c.if-is_blank.true) c.words.invariant.scanned;
}

pub words-preserved : goal.words-preserved
words-preserved c =
    let here = c.rest_from.ensures in
    record {
      within = omega (arith, c.in_ok-word.ensures.within, ap length c.rest_from.ensures, length-drop c.words.place c.args.line.now);
      scanned =
          word_more (record { tokens = c.words.tokens; end = c.words.end; met = c.words.names }) (line_scan c.args.names.now c.args.at c.args.line.now) c.args.at c.words.place c.args.line.now
          c.in_ok-word.word c.in_ok-word.more c.word.new.names c.push.new.self
          c.words-test.true (sym c.is_blank.ensures ∙ c.if-is_blank.false) (c.in_ok-word.ensures.word ∙ ap (λ b. (word_at c.words.names b).word) here) (c.in_ok-word.ensures.more ∙ ap (λ b. (word_at c.words.names b).more) here) (c.in_ok-word.ensures.met ∙ ap (λ b. (word_at c.words.names b).met) here)
          (omega (arith, c.in_ok-word.ensures.within, ap length here)) c.in_ok-push.ensures.added
          c.words.invariant.scanned;
    }

pub returns-clause-tokens : goal.returns-clause-tokens
returns-clause-tokens c =
    ap (λ s. s.tokens) (scan_end (record { tokens = c.words.tokens; end = c.words.end; met = c.words.names }) (line_scan c.args.names.now c.args.at c.args.line.now) c.args.at c.words.place c.args.line.now c.words-test.false c.words.invariant.scanned)

pub returns-clause-end : goal.returns-clause-end
returns-clause-end c =
    ap (λ s. s.end) (scan_end (record { tokens = c.words.tokens; end = c.words.end; met = c.words.names }) (line_scan c.args.names.now c.args.at c.args.line.now) c.args.at c.words.place c.args.line.now c.words-test.false c.words.invariant.scanned)

pub returns-clause-met : goal.returns-clause-met
returns-clause-met c =
    ap (λ s. s.met) (scan_end (record { tokens = c.words.tokens; end = c.words.end; met = c.words.names }) (line_scan c.args.names.now c.args.at c.args.line.now) c.args.at c.words.place c.args.line.now c.words-test.false c.words.invariant.scanned)
