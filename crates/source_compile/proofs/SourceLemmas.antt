-- Each text that is assembled is a source, with the same DNA.
use Rattle.std.proofs.Common.{◌≡◌, ℕ, ◌+◌, Ok, List, [], ◌∷◌, ◌++◌, length, arith, refl, sym, ap, ◌∙◌, subst, append_assoc, append-nil, length-append}
use Rattle.std.specs.List.{AllByRecursion}
use Rattle.fuun_base.specs.Lines.{lines}
use Rattle.source_code.specs.Answers.{IsAnswer}
use Rattle.source_text.specs.Judging.{Placed, state}
use Rattle.source_text.specs.Names.{Names, first_meanings}
use Rattle.source_text.specs.Sources.{and_taken, labels, labels_of, lines_of, taken_all}
use Rattle.source_text.specs.Taking.{lines_in}
use Rattle.source_tokens.specs.declared.statements.Statement.{Statement}
use Rattle.source_tokens.specs.declared.words.Token.{Token}
use Rattle.source_tokens.specs.declared.words.Word.TheVariants.{Arrow}
use Rattle.source_tokens.specs.Names.{first_names}
use Rattle.source_tokens.specs.Statements.{before, line_scan, statements, statements_of}
use Rattle.source_tokens.specs.Words.{Scan, token_at}
use Rattle.source_tokens.proofs.LineLemmas.{said, something_said}
use Rattle.listing.specs.Texts.{pair_text, pattern_item_text, template_item_text}
use Rattle.assembler.specs.Answers.{Pair, AreTexts, pairs_code}
use Rattle.assembler.specs.Laws.{IsSmallPair}
use Rattle.source_compile.specs.Compiled.{IsCompiledBy}
use Rattle.source_compile.specs.Laws.{AssembledIsSource}
use Rattle.source_compile.proofs.FixedLemmas.{pairs_settled, source_line, source_lines}
use Rattle.source_compile.proofs.PlainLemmas.{plain_is, small_pair}
use Rattle.source_compile.proofs.ScanLemmas.{pair_scanned}
use Rattle.source_compile.proofs.Spelling.{behind_pattern, pair_tokens, pattern_tokens, template_tokens, tokens_of}
use Rattle.source_compile.proofs.StatementLemmas.{pair_placed, pair_taken, placed_line}

some_tokens : (front : List Token) (token : Token) (more : List Token) → front ++ (token ∷ more) ≡ [] → ⊥
some_tokens front token more none = omega (arith, ap length none, length-append front (token ∷ more))

-- the first of the lines is a statement
first_statement : (met : List (List ℕ)) (at : ℕ) (line : List ℕ) (all : List (List ℕ)) (pair : Pair) → line ≡ pair_text pair.0 pair.1 → IsSmallPair pair
    → (end : ℕ) × (statements_of met at (line ∷ all) ≡ said (pair_tokens at pair) end ∷ statements_of met (at + length line + 1) all)
unfolding statements_of
first_statement met at line all pair is small =
    let read = pair_scanned met at pair small in
    let whole : Scan → List Statement = λ s. before s.tokens s.end (statements_of s.met (at + length line + 1) all) in
    let puts : List Token = tokens_of template_item_text template_tokens (behind_pattern at pair + 4) pair.1 in (
      read.0,
      ap (λ l. whole (line_scan met at l)) is ∙ ap whole read.1
          ∙ something_said (pair_tokens at pair) read.0 (statements_of met (at + length line + 1) all)
          (some_tokens (tokens_of pattern_item_text pattern_tokens at pair.0) (token_at Arrow (behind_pattern at pair + 1)) puts),
    )

-- the lines that the statements of pairs come to
record AreTaken (limit : ℕ) (names : Names) (old : List Placed) (all : List Statement) (pairs : List Pair) : Type 0 where
  new : List Placed
  taken : taken_all limit (state names old) all ≡ Ok (state names (old ++ new))
  lines : lines_in new ≡ source_lines pairs

one_taken : (limit : ℕ) (names : Names) (old new : List Placed) (first : Placed) (more : List Statement) (taken : _)
    → taken ≡ Ok (state names (old ++ first ∷ [])) → taken_all limit (state names (old ++ first ∷ [])) more ≡ Ok (state names ((old ++ first ∷ []) ++ new))
    → and_taken taken (λ next. taken_all limit next more) ≡ Ok (state names (old ++ first ∷ new))
one_taken limit names old new first more taken is later = rw is (later ∙ ap (λ l. Ok (state names l)) (append_assoc old (first ∷ []) new))

none_taken : (limit : ℕ) (names : Names) (old : List Placed) (met : List (List ℕ)) (at : ℕ) → AreTaken limit names old (statements_of met at []) []
unfolding taken_all statements_of
none_taken limit names old met at = record { new = []; taken = ap (λ l. Ok (state names l)) (sym (append-nil old)); lines = refl }

all_taken : (limit : ℕ) (names : Names) (old : List Placed) (met : List (List ℕ)) (at : ℕ) (all : List (List ℕ)) (pairs : List Pair) → AreTexts all pairs
    → AreTaken limit names old (statements_of met at all) pairs
unfolding taken_all
all_taken limit names old met at [] [] texts = none_taken limit names old met at
all_taken limit names old met at [] (pair ∷ pairs) texts = absurd texts
all_taken limit names old met at (line ∷ all) [] texts = absurd texts
all_taken limit names old met at (line ∷ all) (pair ∷ pairs) texts =
    let small : IsSmallPair pair = small_pair line pair texts.0 in
    let first = first_statement met at line all pair texts.0.text small in
    let here : Placed = pair_placed at pair in
    let later = all_taken limit names (old ++ here ∷ []) met (at + length line + 1) all pairs texts.2 in
    let more : List Statement = statements_of met (at + length line + 1) all in
    record {
      new = here ∷ later.new;
      taken =
          ap (taken_all limit (state names old)) first.1
          ∙ one_taken limit names old later.new here more _ (pair_taken limit names old at first.0 pair small texts.1) later.taken;
      lines = ap (λ l. l ∷ lines_in later.new) (placed_line at pair) ∙ ap (λ l. source_line pair ∷ l) later.lines;
    }

small_pairs : (all : List (List ℕ)) (pairs : List Pair) → AreTexts all pairs → AllByRecursion IsSmallPair pairs
small_pairs [] [] texts = tt
small_pairs [] (pair ∷ pairs) texts = absurd texts
small_pairs (line ∷ all) [] texts = absurd texts
small_pairs (line ∷ all) (pair ∷ pairs) texts = (small_pair line pair texts.0, small_pairs all pairs texts.2)

-- the lines of a source whose statements come to them
read_by : (limit : ℕ) (names : Names) (all : List Statement) (new : List Placed) → taken_all limit (state names []) all ≡ Ok (state names new)
    → and_taken (taken_all limit (state names []) all) (λ state. Ok state.lines) ≡ Ok new
read_by limit names all new is = rw is refl

pub assembled_is_source : AssembledIsSource
assembled_is_source text dna limit assembled within =
    let pairs : List Pair = assembled.0 in
    let names : Names = labels_of (labels first_meanings 0) (statements text) in
    let same : statements text ≡ statements_of first_names 0 (lines text) = ap (λ l. statements_of first_names 0 (lines l)) (plain_is text pairs assembled.1) in
    let taken = all_taken limit names [] first_names 0 (lines text) pairs assembled.1 in
    let read : lines_of limit text ≡ Ok taken.new = read_by limit names (statements text) taken.new (ap (taken_all limit (state names [])) same ∙ taken.taken) in
    let small : AllByRecursion IsSmallPair pairs = small_pairs (lines text) pairs assembled.1 in
    let settled : IsAnswer (source_lines pairs) limit (Ok (pairs_code pairs)) = pairs_settled pairs limit small (omega (arith, within, ap length assembled.2)) in
    subst (λ r. IsCompiledBy limit text r (Ok dna)) (sym read)
    (subst (λ l. IsAnswer l limit (Ok dna)) (sym taken.lines) (subst (λ d. IsAnswer (source_lines pairs) limit (Ok d)) (sym assembled.2) settled))
