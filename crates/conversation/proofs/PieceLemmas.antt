-- Lemmas on the lines that end in a piece.
use Rattle.std.proofs.Common.{◌≡◌, ℕ, suc, ◌+◌, List, [], ◌∷◌, ◌++◌, take, drop, Option, Some, sym, ap, subst, ◌∙◌, append_assoc, add-one}
use Rattle.std.specs.Prelude.{◌==◌, position}
use Rattle.fuun_base.specs.Lines.{lines}
use Rattle.conversation.specs.Cut.{NoFeed}
use Rattle.conversation.specs.Answering.{AreAnswered, AreBrokenOff}
use Rattle.conversation.specs.Talking.{Waits}
use Rattle.conversation.proofs.AnswerLemmas.{broken_more}
use Rattle.conversation.proofs.LineLemmas.{lines_first}
use Rattle.conversation.proofs.BehindLemmas.{broken_waiting, free_more, waits_more}
use Rattle.conversation.proofs.FeedLemmas.{split_first}

-- what waits, cut at the first line feed of the rest
cut_at : (waiting rest : List ℕ) (end : ℕ) → Some end ≡ position (λ byte. byte == 10) rest → NoFeed waiting
    → NoFeed (waiting ++ take end rest) × (waiting ++ rest ≡ (waiting ++ take end rest) ++ (10 ∷ drop (suc end) rest))
cut_at waiting rest end is free =
    let found = split_first rest end (sym is) in
    (free_more waiting (take end rest) free found.1.0, ap (λ l. waiting ++ l) found.1.1 ∙ sym (append_assoc waiting (take end rest) (10 ∷ drop (suc end) rest)))

-- the first line of what waits was answered
pub waits_line : {A : Type 0} (says : A → List ℕ → A → List ℕ → Type 0) (old mid new : A) (bytes waiting rest cleared more : List ℕ) (end : ℕ) (told now last : Option (List ℕ))
    → Some end ≡ position (λ byte. byte == 10) rest → NoFeed waiting → cleared ≡ [] → more ≡ drop (end + 1) rest
    → Waits says old bytes (waiting ++ rest) mid told now → AreAnswered says mid ((waiting ++ take end rest) ∷ []) new now last
    → Waits says old bytes (cleared ++ more) new told last
waits_line says old mid new bytes waiting rest cleared more end told now last is free none behind w a =
    let parts = cut_at waiting rest end is free in
    let left : cleared ++ more ≡ drop (suc end) rest = ap (λ l. l ++ more) none ∙ behind ∙ ap (λ n. drop n rest) (add-one end) in
    let before : Waits says old bytes ((waiting ++ take end rest) ++ (10 ∷ drop (suc end) rest)) mid told now = subst (λ l. Waits says old bytes l mid told now) parts.1 w in
    subst (λ l. Waits says old bytes l new told last) (sym left) (waits_more says old mid new bytes (waiting ++ take end rest) (drop (suc end) rest) told now last parts.0 before a)

-- the answer to the first line of what waits broke off
pub broken_line : {A : Type 0} (says : A → List ℕ → A → List ℕ → Type 0) (old mid : A) (bytes waiting rest : List ℕ) (end : ℕ) (told now last : Option (List ℕ))
    → Some end ≡ position (λ byte. byte == 10) rest → NoFeed waiting
    → Waits says old bytes (waiting ++ rest) mid told now → AreBrokenOff says mid ((waiting ++ take end rest) ∷ []) now last
    → AreBrokenOff says old (lines bytes) told last
broken_line says old mid bytes waiting rest end told now last is free w b =
    let parts = cut_at waiting rest end is free in
    let are : lines (waiting ++ rest) ≡ (waiting ++ take end rest) ∷ lines (drop (suc end) rest) = ap lines parts.1 ∙ lines_first (waiting ++ take end rest) (drop (suc end) rest) parts.0 in
    broken_waiting says old mid bytes (waiting ++ rest) told now last w
    (subst (λ l. AreBrokenOff says mid l now last) (sym are) (broken_more says mid ((waiting ++ take end rest) ∷ []) (lines (drop (suc end) rest)) now last b))
