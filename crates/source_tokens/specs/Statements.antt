-- The statements of a source.
use Rattle.std.specs.Prelude.{ℕ, ◌+◌, List, [], ◌∷◌, drop, length}
use Rattle.fuun_base.specs.Lines.{lines}
use Rattle.source_tokens.specs.declared.statements.Statement.{Statement}
use Rattle.source_tokens.specs.declared.words.Token.{Token}
use Rattle.source_tokens.specs.Names.{first_names}
use Rattle.source_tokens.specs.Plain.{plain}
use Rattle.source_tokens.specs.Words.{Scan, scan}

-- no token of a line is read
abbrev pub nothing_yet : List (List ℕ) → ℕ → Scan
nothing_yet met at = record { tokens = []; end = at; met = met }

-- the tokens of a line that stands behind so many bytes
abbrev pub line_scan : List (List ℕ) → ℕ → List ℕ → Scan
line_scan met at line = scan 0 (nothing_yet met at) at line

-- tokens before the statements behind them: a line without tokens says nothing
abbrev pub before : List Token → ℕ → List Statement → List Statement
before [] end more = more
before (token ∷ tokens) end more = record { tokens = token ∷ tokens; end = end } ∷ more

-- the statements of lines as they are read
unfoldable pub statements_of : List (List ℕ) → ℕ → List (List ℕ) → List Statement
statements_of met at [] = []
statements_of met at (line ∷ lines) =
    before (line_scan met at line).tokens (line_scan met at line).end (statements_of (line_scan met at line).met (at + length line + 1) lines)

-- the statements of a text from a place on, where these names were met before it
abbrev pub statements_from : List (List ℕ) → ℕ → List ℕ → List Statement
statements_from met place text = statements_of met place (lines (drop place text))

-- the statements of a source
abbrev pub statements : List ℕ → List Statement
statements bytes = statements_from first_names 0 (plain bytes)
