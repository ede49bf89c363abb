use Rattle.std.proofs.Common.{◌∷◌, ◌++◌, [], subst, sym}
use Rattle.source_text.specs.Keeping.{IsHeld}
use Rattle.source_text.proofs.UseLemmas.{filled_other}
use Rattle.source_text.proofs.held.with_piece.Goals as goal

pub returns-in_ok-held-in_default : goal.returns-in_ok-held-in_default
returns-in_ok-held-in_default c x lists is are =
    let one : IsHeld c.args.limit c.in_ok-one-in_default.one (c.args.piece.now ∷ []) = subst (λ p. IsHeld c.args.limit c.in_ok-one-in_default.one (p ∷ [])) c.in_ok-copied-in_default.ensures c.in_ok-one-in_default.ensures in
    subst (λ l. IsHeld c.args.limit c.in_ok-held-in_default.held (x ++ l)) (sym (filled_other lists c.args.piece.now c.args.piece.now.item c.in_default.not-Given))
    (c.in_ok-held-in_default.ensures x (c.args.piece.now ∷ []) is one)
