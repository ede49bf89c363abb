use Rattle.std.proofs.Common.{◌++◌, subst, ◌∙◌}
use Rattle.std.specs.Prelude.{codes}
use Rattle.fuun_io.specs.Written.{Puts}
use Rattle.fuun_top.specs.StatusLine.{line}
use Rattle.fuun_top.proofs.status.put_too_long.Goals as goal

pub returns-clause-puts : goal.returns-clause-puts
returns-clause-puts g c =
    subst (λ digits. Puts c.put_pieces.result (g.S.Sink.bytes c.args.sink.now) (g.S.Sink.bytes c.put_pieces.new.sink) (line (codes "too long at attempt " ++ digits)))
    (c.as_bytes.ensures.value ∙ c.format.ensures.text) c.put_pieces.ensures.puts
