-- The tokens of an assembler's items are read as its items.
use Rattle.std.proofs.Common.{◌≡◌, ℕ, zero, suc, ◌+◌, ◌^◌, ◌<◌, ◌≤◌, Bool, true, false, Ok, List, [], ◌∷◌, ◌++◌, length, arith, refl, sym, ap, ◌∙◌, append_assoc, append-nil, length-append, subst}
use Rattle.std.specs.List.{AllByRecursion}
use Rattle.std.proofs.lemmas.Bool.{lt-ltb}
use Rattle.fuun_base.specs.declared.letters.Base.{Base as BaseOf}
use Rattle.dna_items.specs.declared.items.PatItem.{PatItem}
use Rattle.dna_items.specs.declared.items.PatItem.TheVariants as pat
use Rattle.dna_items.specs.declared.items.TplItem.{TplItem}
use Rattle.dna_items.specs.declared.items.TplItem.TheVariants as tpl
use Rattle.source_text.specs.Names.{Names}
use Rattle.source_text.specs.Pieces.{are_bases, bases_of, piece_at}
use Rattle.source_text.specs.Reading.{Read, behind, no_faults, number}
use Rattle.source_text.specs.Sequences.{Inside, Worth, begins, begins_by, begins_common, common, level_part, one, part, parts, repeatable, repeats, skip_part, worth}
use Rattle.source_text.specs.Sums.{factor}
use Rattle.source_tokens.specs.declared.words.Token.{Token}
use Rattle.source_tokens.specs.declared.words.Word.{Word}
use Rattle.source_tokens.specs.declared.words.Word.TheVariants.{Greater}
use Rattle.source_tokens.specs.Words.{token_at}
use Rattle.assembler.specs.Pairs.{HasSmallNumbers, HasSmallSkip}
use Rattle.source_compile.proofs.Spelling.{Item, Piece, bases_kind, pattern_kind, template_kind, search_piece, letter_piece, letter_text, letter_tokens, pattern_piece, pattern_tokens, pieces_of, template_piece, template_tokens, tokens_of}

-- no `*` stands at the front
abbrev pub NoStar : List Token → Type 0
NoStar tokens = (most : ℕ) (found : Worth) → repeats (suc most) found tokens ≡ Ok (found, tokens)

-- each thing is read by its tokens, where no `*` follows
pub record IsPart {X : Type 0} (each : ℕ → X → List Token) (item : X → Item) (Small : X → Type 0) (starting : Word → Bool) (reading : List Token → Read Worth) : Type 0 where
  pub reads : (x : X) (at : ℕ) (more : List Token) → Small x → NoStar more → reading (each at x ++ more) ≡ Ok (one (item x) at, more)
  pub starts : (x : X) (at : ℕ) (more : List Token) → begins_by starting (each at x ++ more) ≡ true
  pub apart : (x : X) (at : ℕ) (more : List Token) → NoStar (each at x ++ more)
  pub some : (x : X) (at : ℕ) → 0 < length (each at x)

-- no part begins here
parts_end : (starting : Word → Bool) (reading : List Token → Read Worth) (most : ℕ) (found : Worth) (rest : List Token) → 0 < most → begins_by starting rest ≡ false → parts starting reading most found rest ≡ Ok (found, rest)
unfolding parts
parts_end starting reading zero found rest some other = absurd (omega arith)
parts_end starting reading (suc most) found rest some other = rw other refl

-- one part more
parts_more : (starting : Word → Bool) (reading : List Token → Read Worth) (most : ℕ) (found : List Piece) (tokens more : List Token) (thing : Item) (at : ℕ)
    → begins_by starting tokens ≡ true → reading tokens ≡ Ok (one thing at, more)
    → parts starting reading (suc most) (worth found no_faults) tokens ≡ parts starting reading most (worth (found ++ piece_at at thing ∷ []) no_faults) more
unfolding parts
parts_more starting reading most found tokens more thing at is read = rw (is, read) refl

module _ {X : Type 0} (text : X → List ℕ) (each : ℕ → X → List Token) (item : X → Item) (Small : X → Type 0) (starting : Word → Bool) (reading : List Token → Read Worth) (is : IsPart each item Small starting reading) where
  many_tokens : (at : ℕ) (xs : List X) → length xs ≤ length (tokens_of text each at xs)
  many_tokens at [] = omega arith
  many_tokens at (x ∷ xs) = omega (arith, is.some x at, many_tokens (at + length (text x)) xs, length-append (each at x) (tokens_of text each (at + length (text x)) xs))

  no_star : (at : ℕ) (xs : List X) (rest : List Token) → NoStar rest → NoStar (tokens_of text each at xs ++ rest)
  no_star at [] rest bars = bars
  no_star at (x ∷ xs) rest bars =
      subst NoStar (sym (append_assoc (each at x) (tokens_of text each (at + length (text x)) xs) rest)) (is.apart x at (tokens_of text each (at + length (text x)) xs ++ rest))

  -- all of them are read, one behind the other
  parts_read : (at most : ℕ) (found : List Piece) (xs : List X) (rest : List Token) → AllByRecursion Small xs → length xs < most → begins_by starting rest ≡ false → NoStar rest
      → parts starting reading most (worth found no_faults) (tokens_of text each at xs ++ rest) ≡ Ok (worth (found ++ pieces_of text item at xs) no_faults, rest)
  parts_read at most found [] rest small enough ends bars =
      let result : List Piece → Read Worth = λ l. Ok (worth l no_faults, rest) in
      parts_end starting reading most (worth found no_faults) rest (omega arith) ends ∙ ap result (sym (append-nil found))
  parts_read at zero found (x ∷ xs) rest small enough ends bars = absurd (omega arith)
  parts_read at (suc most) found (x ∷ xs) rest small enough ends bars =
      let next : ℕ = at + length (text x) in
      let more : List Token = tokens_of text each next xs ++ rest in
      let result : List Piece → Read Worth = λ l. Ok (worth l no_faults, rest) in
      ap (parts starting reading (suc most) (worth found no_faults)) (append_assoc (each at x) (tokens_of text each next xs) rest)
      ∙ parts_more starting reading most found (each at x ++ more) more (item x) at (is.starts x at more) (is.reads x at more small.0 (no_star next xs rest bars))
      ∙ parts_read next most (found ++ piece_at at (item x) ∷ []) xs rest small.1 (omega arith) ends bars
      ∙ ap result (append_assoc found (piece_at at (item x) ∷ []) (pieces_of text item next xs))

  -- and so from nothing on, by as many steps as there are tokens
  pub all_read : (at : ℕ) (xs : List X) (rest : List Token) → AllByRecursion Small xs → begins_by starting rest ≡ false → NoStar rest
      → parts starting reading (suc (length (tokens_of text each at xs ++ rest))) (worth [] no_faults) (tokens_of text each at xs ++ rest) ≡ Ok (worth (pieces_of text item at xs) no_faults, rest)
  all_read at xs rest small ends bars =
      parts_read at (suc (length (tokens_of text each at xs ++ rest))) [] xs rest small (omega (arith, many_tokens at xs, length-append (tokens_of text each at xs) rest)) ends bars

-- a part that nothing repeats
once : (reading : List Token → Read Worth) (found : Worth) (tokens more : List Token) → NoStar more → reading tokens ≡ Ok (found, more) → repeatable reading tokens ≡ Ok (found, more)
once reading found tokens more bars read = rw read (bars (length more) found)

-- letters

module _ (names : Names) (line : ℕ) (inside : Inside) where
  one_letter : (b : BaseOf) (at : ℕ) (more : List Token) → common names line inside bases_kind (letter_tokens at b ++ more) ≡ Ok (one (letter_piece b) at, more)
  unfolding common
  one_letter b at more = refl

  letter_apart : (b : BaseOf) (at : ℕ) (more : List Token) → NoStar (letter_tokens at b ++ more)
  unfolding repeats
  letter_apart b at more most found = refl

  letter_part : IsPart letter_tokens letter_piece (λ b. Unit {0}) begins_common (repeatable (common names line inside bases_kind))
  letter_part = record {
    reads = λ b at more small bars. once (common names line inside bases_kind) (one (letter_piece b) at) (letter_tokens at b ++ more) more bars (one_letter b at more);
    starts = λ b at more. refl;
    apart = letter_apart;
    some = λ b at. omega arith;
  }

no_star_there : (at : ℕ) (more : List Token) → NoStar (token_at Greater at ∷ more)
unfolding repeats
no_star_there at more most found = refl

all_letters : (s : List BaseOf) → AllByRecursion (λ b. Unit {0}) s
all_letters [] = tt
all_letters (b ∷ s) = (tt, all_letters s)

letters_are_bases : (at : ℕ) (s : List BaseOf) → are_bases (pieces_of letter_text letter_piece at s) ≡ true
letters_are_bases at [] = refl
letters_are_bases at (b ∷ s) = letters_are_bases (at + 1) s

pub letters_of : (at : ℕ) (s : List BaseOf) → bases_of (pieces_of letter_text letter_piece at s) ≡ s
letters_of at [] = refl
letters_of at (b ∷ s) = ap (λ l. b ∷ l) (letters_of (at + 1) s)

-- items of patterns

module _ (names : Names) (line : ℕ) (inside : Inside) where
  abbrev pattern_reading : List Token → Read Worth
  pattern_reading tokens = part names line inside pattern_kind tokens

  search_read : (s : List BaseOf) (at : ℕ) (more : List Token) → pattern_reading (pattern_tokens at (pat.Search s) ++ more) ≡ Ok (one (search_piece s) at, more)
  unfolding part behind
  search_read s at more =
      let letters : List Token = tokens_of letter_text letter_tokens (at + 1) s in
      let end : List Token = token_at Greater (at + 1 + length s) ∷ more in
      let read = all_read letter_text letter_tokens letter_piece (λ b. Unit {0}) begins_common (repeatable (common names line inside bases_kind)) (letter_part names line inside) (at + 1) s end (all_letters s) refl (no_star_there (at + 1 + length s) more) in
      rw (append_assoc letters (token_at Greater (at + 1 + length s) ∷ []) more) (rw read (rw (letters_are_bases (at + 1) s, letters_of (at + 1) s, letters_of 0 s) refl))

  item_read : (x : PatItem) (at : ℕ) (more : List Token) → HasSmallSkip x → pattern_reading (pattern_tokens at x ++ more) ≡ Ok (one (pattern_piece x) at, more)
  unfolding part common skip_part factor
  item_read (pat.Base b) at more small = refl
  item_read (pat.Skip n) at more small = rw (lt-ltb n (2 ^ 63) small) refl
  item_read (pat.Search s) at more small = search_read s at more
  item_read pat.GroupStart at more small = refl
  item_read pat.GroupStop at more small = refl

  item_starts : (x : PatItem) (at : ℕ) (more : List Token) → begins_by (begins pattern_kind) (pattern_tokens at x ++ more) ≡ true
  item_starts (pat.Base b) at more = refl
  item_starts (pat.Skip n) at more = refl
  item_starts (pat.Search s) at more = refl
  item_starts pat.GroupStart at more = refl
  item_starts pat.GroupStop at more = refl

  item_apart : (x : PatItem) (at : ℕ) (more : List Token) → NoStar (pattern_tokens at x ++ more)
  unfolding repeats
  item_apart (pat.Base b) at more most found = refl
  item_apart (pat.Skip n) at more most found = refl
  item_apart (pat.Search s) at more most found = refl
  item_apart pat.GroupStart at more most found = refl
  item_apart pat.GroupStop at more most found = refl

  item_some : (x : PatItem) (at : ℕ) → 0 < length (pattern_tokens at x)
  item_some (pat.Base b) at = omega arith
  item_some (pat.Skip n) at = omega arith
  item_some (pat.Search s) at = omega arith
  item_some pat.GroupStart at = omega arith
  item_some pat.GroupStop at = omega arith

  pub pattern_part : IsPart pattern_tokens pattern_piece HasSmallSkip (begins pattern_kind) (repeatable pattern_reading)
  pattern_part = record {
    reads = λ x at more small bars. once pattern_reading (one (pattern_piece x) at) (pattern_tokens at x ++ more) more bars (item_read x at more small);
    starts = item_starts;
    apart = item_apart;
    some = item_some;
  }

  -- items of templates

  abbrev template_reading : List Token → Read Worth
  template_reading tokens = part names line inside template_kind tokens

  put_read : (x : TplItem) (at : ℕ) (more : List Token) → HasSmallNumbers x → template_reading (template_tokens at x ++ more) ≡ Ok (one (template_piece x) at, more)
  unfolding part common level_part number behind
  put_read (tpl.Base b) at more small = refl
  put_read (tpl.Group n level) at more small = rw (lt-ltb n (2 ^ 63) small.0, lt-ltb level (2 ^ 63) small.1) refl
  put_read (tpl.Len n) at more small = rw (lt-ltb n (2 ^ 63) small) refl

  put_starts : (x : TplItem) (at : ℕ) (more : List Token) → begins_by (begins template_kind) (template_tokens at x ++ more) ≡ true
  put_starts (tpl.Base b) at more = refl
  put_starts (tpl.Group n level) at more = refl
  put_starts (tpl.Len n) at more = refl

  put_apart : (x : TplItem) (at : ℕ) (more : List Token) → NoStar (template_tokens at x ++ more)
  unfolding repeats
  put_apart (tpl.Base b) at more most found = refl
  put_apart (tpl.Group n level) at more most found = refl
  put_apart (tpl.Len n) at more most found = refl

  put_some : (x : TplItem) (at : ℕ) → 0 < length (template_tokens at x)
  put_some (tpl.Base b) at = omega arith
  put_some (tpl.Group n level) at = omega arith
  put_some (tpl.Len n) at = omega arith

  pub template_part : IsPart template_tokens template_piece HasSmallNumbers (begins template_kind) (repeatable template_reading)
  template_part = record {
    reads = λ x at more small bars. once template_reading (one (template_piece x) at) (template_tokens at x ++ more) more bars (put_read x at more small);
    starts = put_starts;
    apart = put_apart;
    some = put_some;
  }
