use Rattle.std.proofs.Common.{rules, sym}
use Rattle.fuun_base.proofs.QuoteLemmas.{protect_more}
use Rattle.strand.proofs.Levels.{protect_zero, protect_of_none}
use Rattle.strand.proofs.quoting.requoted.Goals as goal

pub returns-then-len-eq0 : goal.returns-then-len-eq0
returns-then-len-eq0 c = sym (protect_of_none c.args.level c.args.list.items (search rules))

pub loop-done-init : goal.loop-done-init
loop-done-init c = sym (protect_zero c.args.list.items)

pub loop-done-preserved : goal.loop-done-preserved
loop-done-preserved c = let more = protect_more c.loop-done.done c.args.list.items in cc (more, c.in_ok-quoted.ensures, c.loop-done.invariant, c.as_slice.ensures.value)
