-- Statements line by line.
use Rattle.std.proofs.Common.{◌≡◌, ℕ, ◌+◌, ◌≤◌, inl, inr, Option, Some, None, List, [], ◌∷◌, ◌++◌, length, drop, arith, refl, sym, ap, ◌∙◌, min, length-drop}
use Rattle.std.specs.Prelude.{MatchOption}
use Rattle.std.specs.Option.{option_to_list}
use Rattle.std.proofs.lemmas.Bool.{cases_lt}
use Rattle.std.proofs.lemmas.List.{drop-drop, drop_all}
use Rattle.fuun_base.specs.Lines.{lines}
use Rattle.source_tokens.specs.declared.statements.Statement.{Statement}
use Rattle.source_tokens.specs.declared.words.Token.{Token}
use Rattle.source_tokens.specs.Statements.{before, line_scan, statements_from, statements_of}

pub none_left : (met : List (List ℕ)) (place : ℕ) (text : List ℕ) → length text ≤ place → statements_from met place text ≡ []
unfolding statements_of
none_left met place text past = ap (λ l. statements_of met place (lines l)) (drop_all place text past)

first_line : (met : List (List ℕ)) (place : ℕ) (line : List ℕ) (more : List (List ℕ))
    → statements_of met place (line ∷ more) ≡ before (line_scan met place line).tokens (line_scan met place line).end (statements_of (line_scan met place line).met (place + length line + 1) more)
unfolding statements_of
first_line met place line more = refl

-- the lines behind a line
lines_behind : (met : List (List ℕ)) (place len next : ℕ) (text : List ℕ) → next ≡ min (length text) (place + len + 1)
    → statements_of met (place + len + 1) (lines (drop (len + 1) (drop place text))) ≡ statements_from met next text
unfolding statements_of
lines_behind met place len next text is =
    elim (cases_lt (length text) (place + len + 1)) [
      | inl past ↦
          let gone : drop (len + 1) (drop place text) ≡ [] = drop_all (len + 1) (drop place text) (omega (arith, length-drop place text)) in
          ap (λ l. statements_of met (place + len + 1) (lines l)) gone ∙ sym (none_left met next text (omega arith))
      | inr within ↦
          let there : place + len + 1 ≡ next = omega arith in
          let sum : place + (len + 1) ≡ next = omega arith in
          ap (λ l. statements_of met (place + len + 1) (lines l)) (drop-drop (len + 1) place text ∙ ap (λ n. drop n text) sum)
          ∙ ap (λ n. statements_of met n (lines (drop next text))) there
    ]

pub line_read : (met now : List (List ℕ)) (place next end : ℕ) (text line more : List ℕ) (tokens : List Token) → lines (drop place text) ≡ line ∷ lines more → more ≡ drop (length line + 1) (drop place text)
    → next ≡ min (length text) (place + length line + 1)
    → tokens ≡ (line_scan met place line).tokens → end ≡ (line_scan met place line).end → now ≡ (line_scan met place line).met
    → statements_from met place text ≡ before tokens end (statements_from now next text)
line_read met now place next end text line more tokens first rest next_is a b c =
    let scan = line_scan met place line in
    ap (statements_of met place) first
    ∙ first_line met place line (lines more)
    ∙ ap (λ r. before scan.tokens scan.end (statements_of scan.met (place + length line + 1) (lines r))) rest
    ∙ ap (before scan.tokens scan.end) (lines_behind scan.met place (length line) next text next_is)
    ∙ ap (λ m. before scan.tokens scan.end (statements_from m next text)) (sym c)
    ∙ ap (λ t. before t scan.end (statements_from now next text)) (sym a)
    ∙ ap (λ e. before tokens e (statements_from now next text)) (sym b)

-- a statement of these tokens
abbrev pub said : List Token → ℕ → Statement
said tokens end = record { tokens = tokens; end = end }

pub nothing_said : (tokens : List Token) (end : ℕ) (more : List Statement) → tokens ≡ [] → before tokens end more ≡ more
nothing_said tokens end more none = ap (λ t. before t end more) none

pub something_said : (tokens : List Token) (end : ℕ) (more : List Statement) → (tokens ≡ [] → ⊥) → before tokens end more ≡ said tokens end ∷ more
something_said [] end more some = absurd (some refl)
something_said (token ∷ tokens) end more some = refl

-- the first of the statements that are left, and those behind it
pub next_given : (old now : List Statement) (next : Option Statement) → old ≡ option_to_list next ++ now → (next ≡ None → now ≡ [])
    → MatchOption next ((old ≡ []) × (now ≡ [])) (λ statement. old ≡ statement ∷ now)
next_given old now None is none = (is ∙ none refl, none refl)
next_given old now (Some statement) is none = is
