-- The tokens of a pair are a statement, which is taken as a line.
use Rattle.std.proofs.Common.{◌≡◌, ℕ, ◌+◌, Result, Ok, Err, List, [], ◌∷◌, ◌++◌, length, map, refl, sym, ap, ◌∙◌, append_assoc, append-nil, subst}
use Rattle.std.specs.List.{AllByRecursion}
use Rattle.dna_items.specs.declared.items.PatItem.{PatItem}
use Rattle.dna_items.specs.declared.items.PatItem.TheVariants as pat
use Rattle.dna_items.specs.declared.items.TplItem.{TplItem}
use Rattle.dna_reader.specs.Codes.{IsReadable}
use Rattle.listing.specs.Texts.{pattern_item_text, template_item_text}
use Rattle.source_items.specs.declared.lines.Line.TheVariants.{Pair as PairLine}
use Rattle.source_text.specs.Forms.{Form, Pair as PairForm, arrow, form, pair_form, spot}
use Rattle.source_text.specs.Judging.{Placed, pair_line, placed, state, with_statement}
use Rattle.source_text.specs.Names.{Names}
use Rattle.source_text.specs.Pieces.{template_of}
use Rattle.source_text.specs.Reading.{either, no_faults}
use Rattle.source_text.specs.Sequences.{begins, inside_at, part, repeatable, repeats, sequence, sequence_by, worth}
use Rattle.source_tokens.specs.declared.statements.Statement.{Statement}
use Rattle.source_tokens.specs.declared.words.Token.{Token}
use Rattle.source_tokens.specs.declared.words.Word.TheVariants.{Arrow}
use Rattle.source_tokens.specs.Words.{token_at}
use Rattle.assembler.specs.Answers.{Pair}
use Rattle.assembler.specs.Laws.{IsSmallPair}
use Rattle.assembler.specs.Pairs.{HasSmallNumbers, HasSmallSkip}
use Rattle.source_compile.proofs.FixedLemmas.{source_item, source_line}
use Rattle.source_compile.proofs.JudgeLemmas.{all_items, all_puts, readable_served}
use Rattle.source_compile.proofs.PartLemmas.{NoStar, all_read, pattern_part, template_part}
use Rattle.source_compile.proofs.Spelling.{behind_pattern, pair_tokens, pattern_kind, pattern_piece, pattern_pieces, pattern_tokens, pieces_of, template_kind, template_piece, template_pieces, template_tokens, tokens_of}

arrow_apart : (at : ℕ) (more : List Token) → NoStar (token_at Arrow at ∷ more)
unfolding repeats
arrow_apart at more most found = refl

end_apart : NoStar []
unfolding repeats
end_apart most found = refl

module _ (names : Names) (line : ℕ) where
  pattern_read : (at place : ℕ) (items : List PatItem) (rest : List Token) → AllByRecursion HasSmallSkip items
      → sequence names line pattern_kind (tokens_of pattern_item_text pattern_tokens at items ++ (token_at Arrow place ∷ rest)) ≡ Ok (worth (pieces_of pattern_item_text pattern_piece at items) no_faults, token_at Arrow place ∷ rest)
  unfolding sequence_by
  pattern_read at place items rest small =
      all_read pattern_item_text pattern_tokens pattern_piece HasSmallSkip (begins pattern_kind) (repeatable (part names line (inside_at names line 64) pattern_kind)) (pattern_part names line (inside_at names line 64))
      at items (token_at Arrow place ∷ rest) small refl (arrow_apart place rest)

  template_read : (at : ℕ) (items : List TplItem) → AllByRecursion HasSmallNumbers items
      → sequence names line template_kind (tokens_of template_item_text template_tokens at items) ≡ Ok (worth (pieces_of template_item_text template_piece at items) no_faults, [])
  unfolding sequence_by
  template_read at items small =
      subst (λ l. sequence names line template_kind l ≡ Ok (worth (pieces_of template_item_text template_piece at items) no_faults, [])) (append-nil (tokens_of template_item_text template_tokens at items))
      (all_read template_item_text template_tokens template_piece HasSmallNumbers (begins template_kind) (repeatable (part names line (inside_at names line 64) template_kind)) (template_part names line (inside_at names line 64))
      at items [] small refl end_apart)

  -- what the tokens of a pair are read as
  abbrev form_at : ℕ → Pair → Form
  form_at at pair = PairForm (worth (pattern_pieces at pair) no_faults) (behind_pattern at pair + 1) (worth (template_pieces at pair) no_faults)

  pair_read : (at : ℕ) (pair : Pair) → IsSmallPair pair → pair_form names line (pair_tokens at pair) ≡ Ok (form_at at pair)
  unfolding arrow
  pair_read at pair small =
      rw (pattern_read at (behind_pattern at pair + 1) pair.0 (tokens_of template_item_text template_tokens (behind_pattern at pair + 4) pair.1) small.0)
      (rw (template_read (behind_pattern at pair + 4) pair.1 small.1) refl)

  -- no statement of another form begins so

  second : (n : ℕ) (found other : Result Form ℕ) (whole : Form) → found ≡ Ok whole → either (Err n) (either found other) ≡ Ok whole
  second n found other whole is = rw is refl

  abbrev IsForm : List Token → Type 0
  IsForm tokens = (whole : Form) → pair_form names line tokens ≡ Ok whole → form names line tokens ≡ Ok whole

  item_first : (x : PatItem) (at : ℕ) (more : List Token) → IsForm (pattern_tokens at x ++ more)
  unfolding form spot
  item_first (pat.Base b) at more whole is = second _ _ _ whole is
  item_first (pat.Skip n) at more whole is = second _ _ _ whole is
  item_first (pat.Search s) at more whole is = second _ _ _ whole is
  item_first pat.GroupStart at more whole is = second _ _ _ whole is
  item_first pat.GroupStop at more whole is = second _ _ _ whole is

  arrow_first : (at : ℕ) (more : List Token) → IsForm (token_at Arrow at ∷ more)
  unfolding form spot
  arrow_first at more whole is = second _ _ _ whole is

  items_first : (at place : ℕ) (items : List PatItem) (more : List Token) → IsForm (tokens_of pattern_item_text pattern_tokens at items ++ (token_at Arrow place ∷ more))
  items_first at place [] more = arrow_first place more
  items_first at place (x ∷ items) more =
      let behind : List Token = tokens_of pattern_item_text pattern_tokens (at + length (pattern_item_text x)) items in
      subst IsForm (sym (append_assoc (pattern_tokens at x) behind (token_at Arrow place ∷ more))) (item_first x at (behind ++ (token_at Arrow place ∷ more)))

  form_read : (at : ℕ) (pair : Pair) → IsSmallPair pair → form names line (pair_tokens at pair) ≡ Ok (form_at at pair)
  form_read at pair small =
      items_first at (behind_pattern at pair + 1) pair.0 (tokens_of template_item_text template_tokens (behind_pattern at pair + 4) pair.1) (form_at at pair) (pair_read at pair small)

abbrev said : List Token → ℕ → Statement
said tokens end = record { tokens = tokens; end = end }

-- the line of a pair, as it is placed
abbrev pub pair_placed : ℕ → Pair → Placed
pair_placed at pair = placed (pair_line (worth (pattern_pieces at pair) no_faults) (worth (template_pieces at pair) no_faults)) (behind_pattern at pair + 1)

pub placed_line : (at : ℕ) (pair : Pair) → (pair_placed at pair).line ≡ source_line pair
placed_line at pair =
    ap (λ p. PairLine p (template_of (template_pieces at pair))) (all_items at pair.0)
    ∙ ap (λ t. PairLine (map source_item pair.0) t) (all_puts (behind_pattern at pair + 4) pair.1)

pub pair_taken : (limit : ℕ) (names : Names) (before : List Placed) (at end : ℕ) (pair : Pair) → IsSmallPair pair → IsReadable pair.0
    → with_statement limit (state names before) (said (pair_tokens at pair) end) ≡ Ok (state names (before ++ pair_placed at pair ∷ []))
unfolding with_statement
pair_taken limit names before at end pair small readable =
    rw (form_read names (length before) at pair small) (rw (readable_served limit (behind_pattern at pair + 1) at pair.0 readable) refl)
