use Rattle.std.proofs.Common.{true, refl}
use Rattle.fuun_top.proofs.AskLemmas.{may_ask_all}
use Rattle.fuun_top.proofs.picture_tests.expect_picture.Goals as goal

pub fuun-answer-requires : goal.fuun-answer-requires
fuun-answer-requires g c = may_ask_all (λ name. true) _ (λ name. refl)
