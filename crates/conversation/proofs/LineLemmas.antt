-- Lemmas on lines without line feeds.
use Rattle.std.proofs.Common.{◌≡◌, ℕ, ◌<◌, List, [], ◌∷◌, ◌++◌, length, refl, ap, ◌∙◌, append_assoc, arith}
use Rattle.std.proofs.lemmas.Bool.{ne_eqb}
use Rattle.fuun_base.specs.Lines.{before_lines, lines}
use Rattle.conversation.specs.Cut.{joined, NoFeed, NoFeeds}

-- a line and what stands behind its line feed
pub lines_first : (line rest : List ℕ) → NoFeed line → lines (line ++ (10 ∷ rest)) ≡ line ∷ lines rest
lines_first [] rest free = refl
lines_first (byte ∷ line) rest free = rw (ne_eqb byte 10 free.0) (ap (before_lines byte) (lines_first line rest free.1))

-- a line that no line feed ends
pub lines_unended : (line : List ℕ) → 0 < length line → NoFeed line → lines line ≡ line ∷ []
lines_unended [] some free = absurd (omega arith)
lines_unended (byte ∷ []) some free = rw (ne_eqb byte 10 free.0) refl
lines_unended (byte ∷ (next ∷ line)) some free = rw (ne_eqb byte 10 free.0) (ap (before_lines byte) (lines_unended (next ∷ line) (omega arith) free.1))

-- lines and what is left behind them
pub lines_joined : (done : List (List ℕ)) (left : List ℕ) → NoFeeds done → lines (joined done left) ≡ done ++ lines left
lines_joined [] left free = refl
lines_joined (line ∷ more) left free = lines_first line (joined more left) free.0 ∙ ap (λ l. line ∷ l) (lines_joined more left free.1)

-- a further line
pub joined_more : (done : List (List ℕ)) (line left : List ℕ) → joined (done ++ line ∷ []) left ≡ joined done (line ++ (10 ∷ left))
joined_more [] line left = refl
joined_more (first ∷ done) line left = ap (λ l. first ++ (10 ∷ l)) (joined_more done line left)

-- bytes behind what is left
pub joined_behind : (done : List (List ℕ)) (left piece : List ℕ) → joined done left ++ piece ≡ joined done (left ++ piece)
joined_behind [] left piece = refl
joined_behind (line ∷ more) left piece = append_assoc line (10 ∷ joined more left) piece ∙ ap (λ l. line ++ (10 ∷ l)) (joined_behind more left piece)

-- lines behind lines
pub joined_joined : (done more : List (List ℕ)) (left : List ℕ) → joined (done ++ more) left ≡ joined done (joined more left)
joined_joined [] more left = refl
joined_joined (line ∷ done) more left = ap (λ l. line ++ (10 ∷ l)) (joined_joined done more left)
