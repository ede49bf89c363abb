use Rattle.std.proofs.Common.{length}
use Rattle.dna_reader.proofs.WindowLemmas.{filled}
use Rattle.dna_reader.proofs.window.Window.fill.Goals as goal

pub returns-then-self-ahead-clause-shows : goal.returns-then-self-ahead-clause-shows
returns-then-self-ahead-clause-shows g c =
    filled c.self.inside c.args.self.now (g.S.Strand.bases c.args.s.now) c.copy_out-self-inside.new.buf c.copy_out-self-inside.result (length c.self.inside.bases) c.self.view_is c.requires
    c.copy_out-self-inside.ensures.number c.copy_out-self-inside.ensures.written
