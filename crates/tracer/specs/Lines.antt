-- The lines of `trace`, one an attempt. K is the attempt's number from 0.
use Rattle.std.specs.Prelude.{ℕ, ◌+◌, List, [], ◌∷◌, ◌++◌, codes, length}
use Rattle.fuun_base.specs.declared.letters.Base.{Base}
use Rattle.dna_items.specs.declared.items.PatItem.{PatItem}
use Rattle.dna_items.specs.declared.items.TplItem.{TplItem}
use Rattle.exec_loop.specs.Attempt.{Attempt}
use Rattle.exec_loop.specs.Made.{outcome_of, dna_behind}
use Rattle.exec_loop.specs.declared.machine.Outcome.{Outcome}
use Rattle.exec_loop.specs.declared.machine.Outcome.TheVariants.{Matched, NoMatch, TooLong, Finished}
use Rattle.listing.specs.Texts.{number_text, pair_text}

-- the items that were read and how the attempt ended, with the length of the DNA behind it
abbrev pub outcome_text : List PatItem → List TplItem → Outcome → ℕ → List ℕ
outcome_text pattern template (Matched stop) len = pair_text pattern template ++ (codes " | match " ++ (number_text stop ++ (codes " | " ++ (number_text len ++ codes "\n"))))
outcome_text pattern template NoMatch len = pair_text pattern template ++ (codes " | no match | " ++ (number_text len ++ codes "\n"))
outcome_text pattern template TooLong len = pair_text pattern template ++ codes " | too long\n"
outcome_text pattern template Finished len = codes "finish\n"

-- the number of an attempt and the length of the DNA before it
abbrev pub head_text : ℕ → ℕ → List ℕ
head_text k len = number_text k ++ (codes " " ++ (number_text len ++ codes " "))

-- the line of attempt K on d
abbrev pub attempt_line : ℕ → List Base → Attempt → List ℕ
attempt_line k d attempt = head_text k (length d) ++ outcome_text attempt.pattern attempt.template (outcome_of attempt.ending) (length (dna_behind d attempt.ending))

-- the lines of attempts, of which the first has number K and is made on d
abbrev pub trace_text : ℕ → List Base → List Attempt → List ℕ
trace_text k d [] = []
trace_text k d (attempt ∷ attempts) = attempt_line k d attempt ++ trace_text (k + 1) (dna_behind d attempt.ending) attempts
