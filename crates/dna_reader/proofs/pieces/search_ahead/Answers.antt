use Rattle.std.proofs.Common.{◌+◌, length, min, ap, ◌∙◌}
use Rattle.fuun_base.specs.declared.letters.Base.{Base}
use Rattle.dna_reader.proofs.PieceLemmas.{search_read}
use Rattle.dna_reader.proofs.pieces.search_ahead.Goals as goal

pub returns-clause-piece : goal.returns-clause-piece
returns-clause-piece g c = λ is_open.
    search_read is_open (g.S.Strand.bases c.args.s.now) c.args.window.now c.pass.new.self c.constants_ahead.new.window.place c.in_ok-constants.constants c.requires.head c.requires.shows c.requires.enough
    (c.pass.ensures.place ∙ ap (λ n. c.args.window.now.place + n) (c.min-letters.ensures ∙ ap (λ l. min (length {A = Base} l) 3) c.ahead.ensures))
    c.in_ok-constants.ensures.bases c.in_ok-constants.ensures.next
