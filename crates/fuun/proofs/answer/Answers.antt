use Rattle.std.proofs.Common.{true, refl}
use Rattle.fuun_top.proofs.AskLemmas.{may_ask_all}
use Rattle.fuun.proofs.answer.Goals as goal

pub fuun-status-requires : goal.fuun-status-requires
fuun-status-requires g c = may_ask_all (λ name. true) _ (λ name. refl)
