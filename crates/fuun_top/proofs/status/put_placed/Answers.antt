use Rattle.std.proofs.Common.{◌≡◌, ℕ, List, [], ◌∷◌, ◌++◌, subst, sym, ◌∙◌, append_assoc}
use Rattle.std.specs.Prelude.{codes, decimal}
use Rattle.fuun_io.specs.Written.{Puts}
use Rattle.fuun_top.proofs.status.put_placed.Goals as goal

joined : (s a m b e f : List ℕ) → ((((s ++ a) ++ m) ++ b) ++ e) ++ f ≡ s ++ (a ++ (m ++ (b ++ (e ++ f))))
joined s a m b e f = append_assoc (((s ++ a) ++ m) ++ b) e f ∙ append_assoc ((s ++ a) ++ m) b (e ++ f) ∙ append_assoc (s ++ a) m (b ++ (e ++ f)) ∙ append_assoc s a (m ++ (b ++ (e ++ f)))

pub returns-clause-puts : goal.returns-clause-puts
returns-clause-puts g c =
    let number_is = c.as_bytes.ensures.value ∙ c.format.ensures.text in
    let column_is = c.as_bytes-2.ensures.value ∙ c.format-2.ensures.text in
    let after = c.args.after.now in
    let old = g.S.Sink.bytes c.args.sink.now in
    let new = g.S.Sink.bytes c.put_pieces.new.sink in
    let first = subst (λ text. Puts c.put_pieces.result old new (codes "fuun: " ++ (codes "source: line " ++ (text ++ (codes ", column " ++ (c.as_bytes-2.result.now ++ (after ++ 10 ∷ []))))))) number_is c.put_pieces.ensures.puts in
    let both = subst (λ text. Puts c.put_pieces.result old new (codes "fuun: " ++ (codes "source: line " ++ (decimal c.args.number ++ (codes ", column " ++ (text ++ (after ++ 10 ∷ []))))))) column_is first in
    subst (λ text. Puts c.put_pieces.result old new (codes "fuun: " ++ text)) (sym (joined (codes "source: line ") (decimal c.args.number) (codes ", column ") (decimal c.args.column) after (10 ∷ []))) both
