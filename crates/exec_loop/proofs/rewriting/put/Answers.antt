use Rattle.std.proofs.Common.{◌≤◌, length, arith, refl}
use Rattle.replacer.specs.Replacement.{replaced}
use Rattle.exec_loop.specs.Rewriting.{ByMatch}
use Rattle.exec_loop.proofs.Lifting.{replaces_at}
use Rattle.exec_loop.proofs.Parts.{put_fits}
use Rattle.exec_loop.proofs.rewriting.put.Goals as goal

pub returns-clause-comes : goal.returns-clause-comes
returns-clause-comes g c =
    let next = g.S.Strand.bases c.in_ok-next.next in
    let made = replaced (g.S.Strand.bases c.args.dna.now) c.args.pair.now.template c.args.groups.now c.args.stop in (
      next,
      replaces_at (g.S.Strand.bases c.args.dna.now) c.args.pair.now.next c.args.pair.now.pattern c.args.pair.now.template c.args.stop c.args.groups.now next c.requires.matches c.in_ok-next.ensures.bases,
      put_fits c.args.limit c.in-Some._len next made c.in_ok-next.ensures.bases c.in-Some.ensures.0 c.in-Some.ensures.1,
      refl,
    )

pub returns-in_err-next-clause-ticks : goal.returns-in_err-next-clause-ticks
returns-in_err-next-clause-ticks g c =
    let fits : length (replaced (g.S.Strand.bases c.args.dna.now) c.args.pair.now.template c.args.groups.now c.args.stop) ≤ c.args.limit = omega (arith, c.in-Some.ensures.0, c.in-Some.ensures.1) in
    ByMatch c.args.stop c.args.groups.now c.requires.matches fits (c.replace.ensures.ticks c.args.limit c.requires.within fits)

pub returns-clause-ticks : goal.returns-clause-ticks
returns-clause-ticks g c =
    let fits : length (replaced (g.S.Strand.bases c.args.dna.now) c.args.pair.now.template c.args.groups.now c.args.stop) ≤ c.args.limit = omega (arith, c.in-Some.ensures.0, c.in-Some.ensures.1) in
    ByMatch c.args.stop c.args.groups.now c.requires.matches fits (c.replace.ensures.ticks c.args.limit c.requires.within fits)
