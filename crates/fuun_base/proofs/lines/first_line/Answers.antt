use Rattle.fuun_base.proofs.LineLemmas.{first_of_lines, no_feed}
use Rattle.fuun_base.proofs.lines.first_line.Goals as goal

pub returns-clause-lines : goal.returns-clause-lines
returns-clause-lines c = rw c.after_line.ensures (first_of_lines c.args.bytes.now c.line_len-len.result c.requires c.line_len-len.ensures.value)

pub returns-clause-no_feed : goal.returns-clause-no_feed
returns-clause-no_feed c = no_feed c.args.bytes.now c.line_len-len.result c.line_len-len.ensures.value
