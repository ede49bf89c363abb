use Rattle.sym_strand.proofs.RunLemmas.{apart_kinds, apart_kinds_turned}
use Rattle.sym_strand.proofs.joining.joint.Goals as goal

pub returns-in-Known-Target : goal.returns-in-Known-Target
returns-in-Known-Target c = apart_kinds c.args.last.now c.args.first.now _ _ _ c.in-Known-Target.is-0 c.in-Known-Target.is-1

pub returns-in-Target-Known : goal.returns-in-Target-Known
returns-in-Target-Known c = apart_kinds_turned c.args.last.now c.args.first.now _ _ _ c.in-Target-Known.is-0 c.in-Target-Known.is-1
