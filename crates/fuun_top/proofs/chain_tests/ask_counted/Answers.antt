use Rattle.std.proofs.Common.{true, refl}
use Rattle.fuun_top.proofs.AskLemmas.{may_ask_all}
use Rattle.fuun_top.proofs.chain_tests.ask_counted.Goals as goal

pub fuun-requires : goal.fuun-requires
fuun-requires g c = may_ask_all (λ name. true) _ (λ name. refl)
