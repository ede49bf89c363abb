use Rattle.std.proofs.Common.{◌≡◌, ◌-◌, length, slice_range, sym, ap, arith, ◌∙◌}
use Rattle.fuun_base.specs.Quote.{quote, protect}
use Rattle.fuun_base.proofs.QuoteLemmas.{length-protect_ge}
use Rattle.strand.proofs.Levels.{protect_zero, protect_first}
use Rattle.rope_strand.proofs.ropes.RopeStrandStrand.quoted.Goals as goal

pub returns-then-level-eq0-clause-bases : goal.returns-then-level-eq0-clause-bases
returns-then-level-eq0-clause-bases g c =
    let range = slice_range c.args.self.now.bases c.args.lo c.args.hi in
    let cut : protect c.args.level range ≡ range = ap (λ n. protect n range) c.if-level-eq0.true ∙ protect_zero range in
    rw cut c.sub.ensures.bases

pub quoted_once-requires-clause-small : goal.quoted_once-requires-clause-small
quoted_once-requires-clause-small g c =
    let range = slice_range c.args.self.now.bases c.args.lo c.args.hi in
    omega (arith, c.requires.small, ap length (protect_first c.args.level range (omega arith)), length-protect_ge (c.args.level - 1) (quote range))

pub build-requires : goal.build-requires
build-requires g c =
    let range = slice_range c.args.self.now.bases c.args.lo c.args.hi in
    let all : c.as_slice.result.now ≡ protect c.args.level range =
    c.as_slice.ensures.value ∙ c.in_ok-bases.ensures ∙ ap (protect (c.args.level - 1)) c.in_ok-once.ensures ∙ sym (protect_first c.args.level range (omega arith)) in
    omega (arith, ap length all, c.requires.small)

pub returns-clause-bases : goal.returns-clause-bases
returns-clause-bases g c =
    let range = slice_range c.args.self.now.bases c.args.lo c.args.hi in
    let all : c.as_slice.result.now ≡ protect c.args.level range =
    c.as_slice.ensures.value ∙ c.in_ok-bases.ensures ∙ ap (protect (c.args.level - 1)) c.in_ok-once.ensures ∙ sym (protect_first c.args.level range (omega arith)) in
    rw (← all) c.build.ensures.bases

pub returns-clause-quote_ticks : goal.returns-clause-quote_ticks
returns-clause-quote_ticks g c =
    let range = slice_range c.args.self.now.bases c.args.lo c.args.hi in
    let all : c.as_slice.result.now ≡ protect c.args.level range =
    c.as_slice.ensures.value ∙ c.in_ok-bases.ensures ∙ ap (protect (c.args.level - 1)) c.in_ok-once.ensures ∙ sym (protect_first c.args.level range (omega arith)) in
    λ above. rw (← all) (omega (arith, c.build.ensures.ticks.0), omega (arith, c.build.ensures.ticks.1))
