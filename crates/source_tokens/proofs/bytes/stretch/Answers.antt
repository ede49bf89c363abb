use Rattle.std.proofs.Common.{◌∙◌, sym}
use Rattle.source_tokens.specs.Bytes.{is_of}
use Rattle.source_tokens.proofs.Steps.{stretch_all, stretch_more, stretch_stop}
use Rattle.source_tokens.proofs.bytes.stretch.Goals as goal

pub returns-then-not-is_of-clause-value : goal.returns-then-not-is_of-clause-value
returns-then-not-is_of-clause-value c = stretch_stop (is_of c.args.kind) c.args.bytes.now c.stretch.place c.stretch-test.true (sym c.is_of.ensures ∙ c.if-not-is_of.true) c.stretch.invariant

pub stretch-preserved : goal.stretch-preserved
stretch-preserved c = stretch_more (is_of c.args.kind) c.args.bytes.now c.stretch.place c.stretch-test.true (sym c.is_of.ensures ∙ c.if-not-is_of.false) c.stretch.invariant

pub returns-clause-value : goal.returns-clause-value
returns-clause-value c = stretch_all (is_of c.args.kind) c.args.bytes.now c.stretch.place c.stretch-test.false c.stretch.auto.place-end c.stretch.invariant
