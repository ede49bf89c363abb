use Rattle.std.proofs.Common.{◌≡◌, [], ◌∷◌, ◌++◌, subst, sym, ◌∙◌, append_assoc}
use Rattle.std.specs.Prelude.{codes, decimal}
use Rattle.fuun_io.specs.Written.{Puts}
use Rattle.fuun_top.proofs.status.put_numbered.Goals as goal

pub returns-clause-puts : goal.returns-clause-puts
returns-clause-puts g c =
    let digits_are = c.as_bytes.ensures.value ∙ c.format.ensures.text in
    let before = c.args.before.now in
    let after = c.args.after.now in
    let digits = decimal c.args.number in
    let old = g.S.Sink.bytes c.args.sink.now in
    let new = g.S.Sink.bytes c.put_pieces.new.sink in
    let puts = subst (λ text. Puts c.put_pieces.result old new (codes "fuun: " ++ (before ++ (text ++ (after ++ 10 ∷ []))))) digits_are c.put_pieces.ensures.puts in
    let whole : (before ++ digits) ++ after ++ 10 ∷ [] ≡ before ++ (digits ++ (after ++ 10 ∷ [])) = append_assoc (before ++ digits) after (10 ∷ []) ∙ append_assoc before digits (after ++ 10 ∷ []) in
    subst (λ text. Puts c.put_pieces.result old new (codes "fuun: " ++ text)) (sym whole) puts
