use Rattle.std.proofs.Common.{◌≡◌, ◌+◌, Some, length, drop, ◌∙◌}
use Rattle.dna_reader.specs.Heads.{unquoted}
use Rattle.dna_reader.proofs.PieceLemmas.{constants_step}
use Rattle.dna_reader.proofs.numerals.constants_ahead.Goals as goal

pub loop-base-preserved : goal.loop-base-preserved
loop-base-preserved g c =
    let d = g.S.Strand.bases c.args.s.now in
    let is : unquoted c.fill.new.self.ahead ≡ Some (c.in-Some.base, c.in-Some.letters) = cc in
    let at : c.fill.new.self.place ≡ c.loop-base.window.place = c.fill.ensures.place in
    let step =
    constants_step d c.args.window.now.place c.fill.new.self.place c.pass.new.self.place c.in-Some.letters c.loop-base.constants c.push.new.self c.fill.new.self.ahead
    (drop (c.fill.new.self.place + length c.fill.new.self.ahead) d) c.in-Some.base c.fill.ensures.shows.ahead is c.in_ok-push.ensures.added c.pass.ensures.place
    (rw at c.loop-base.invariant.bases) (at ∙ c.loop-base.invariant.place) in
    record { shows = c.pass.ensures.shows d c.fill.ensures.shows; bases = step.0; place = step.1 }
