use Rattle.dna_reader.proofs.PieceLemmas.{skip_read}
use Rattle.dna_reader.proofs.pieces.skip_ahead.Goals as goal

pub returns-clause-piece : goal.returns-clause-piece
returns-clause-piece g c = λ is_open.
    skip_read is_open (g.S.Strand.bases c.args.s.now) c.args.window.now.place c.pass.new.self.place c.in_ok-n.n c.numeral_ahead.new.window.place c.requires.head c.pass.ensures.place c.in_ok-n.ensures.read
