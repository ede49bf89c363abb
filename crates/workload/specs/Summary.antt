-- The text of a summary.
use Rattle.std.specs.Prelude.{ℕ, List, [], ◌∷◌, ◌++◌, codes, decimal, flat_map}
use Rattle.fuun_base.specs.Tally.{tally_total}
use Rattle.workload.specs.declared.summary.Summary.{Summary}

-- a line: a word and a number
abbrev pub line_text : List ℕ → ℕ → List ℕ
line_text word number = word ++ (codes " " ++ (decimal number ++ codes "\n"))

-- the words of a summary and their numbers
abbrev pub summary_lines : Summary → List (List ℕ × ℕ)
summary_lines summary =
    (codes "attempts", summary.attempts)
    ∷ (codes "length", tally_total summary.tally)
    ∷ (codes "i", summary.tally.i)
    ∷ (codes "c", summary.tally.c)
    ∷ (codes "f", summary.tally.f)
    ∷ (codes "p", summary.tally.p)
    ∷ (codes "rna", summary.rna)
    ∷ (codes "mark", summary.mark)
    ∷ []

-- a line each
abbrev pub summary_text : Summary → List ℕ
summary_text summary = flat_map (λ line. line_text line.0 line.1) (summary_lines summary)
