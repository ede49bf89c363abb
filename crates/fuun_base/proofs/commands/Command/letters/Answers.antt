use Rattle.std.proofs.Common.{arith, ◌≡◌, ℕ, ◌+◌, ◌<◌, ◌≤◌, List, ◌++◌, length, take, drop, map, set, sym, subst}
use Rattle.std.proofs.lemmas.List.{length-take}
use Rattle.fuun_base.specs.declared.letters.Base.{Base}
use Rattle.fuun_base.specs.declared.letters.Base.TheVariants.{I}
use Rattle.fuun_base.specs.Letter.{letter_of}
use Rattle.fuun_base.proofs.Writing.{written_more}
use Rattle.fuun_base.proofs.commands.Command.letters.Goals as goal

pub loop-index-preserved : goal.loop-index-preserved
loop-index-preserved c =
    let used : List Base = take c.self.inside.len c.self.inside.bases in
    let within : c.loop-index.index < length used = c.loop-index-test.true in
    let room : length used ≤ length c.args.out.now = omega (arith, length-take c.self.inside.len c.self.inside.bases, c.told-out, c.self.invariant.room) in
    let more = written_more letter_of used c.args.out.now c.loop-index.out c.loop-index.index I within room c.loop-index.invariant in
    subst (λ (y : ℕ). set c.loop-index.out c.loop-index.index y ≡ map letter_of (take (c.loop-index.index + 1) used) ++ drop (c.loop-index.index + 1) c.args.out.now) (sym c.letter.ensures) more
