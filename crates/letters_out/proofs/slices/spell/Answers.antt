use Rattle.std.proofs.Common.{◌≡◌, ℕ, ◌+◌, ◌++◌, take, drop, map, set, sym, subst}
use Rattle.fuun_base.specs.declared.letters.Base.TheVariants.{I}
use Rattle.fuun_base.specs.Letter.{letter_of}
use Rattle.fuun_base.proofs.Writing.{written_more}
use Rattle.letters_out.proofs.slices.spell.Goals as goal

pub loop-index-preserved : goal.loop-index-preserved
loop-index-preserved c =
    let more = written_more letter_of c.args.bases.now c.args.out.now c.loop-index.out c.loop-index.index I c.loop-index-test.true c.requires c.loop-index.invariant in
    subst (λ (y : ℕ). set c.loop-index.out c.loop-index.index y ≡ map letter_of (take (c.loop-index.index + 1) c.args.bases.now) ++ drop (c.loop-index.index + 1) c.args.out.now) (sym c.letter.ensures) more
