-- Listings of assembled DNA, and texts of DNA that is listed.
use Rattle.std.proofs.Common.{◌≡◌, ℕ, zero, suc, ◌+◌, ◌-◌, ◌^◌, ◌<◌, inl, inr, ◌==◌, false, codes, decimal, List, [], ◌∷◌, ◌++◌, length, map, flat_map, arith, refl, sym, ap, subst, ◌∙◌, append_assoc, length-append}
use Rattle.std.specs.List.{AllByRecursion}
use Rattle.std.proofs.lemmas.Bool.{ne_eqb}
use Rattle.std.proofs.lemmas.Fmt.{decimal_is_IsNumeral}
use Rattle.std.proofs.lemmas.Str.Parse.{digit_from_value}
use Rattle.std.specs.Str.Parse.{AllDigits}
use Rattle.fuun_base.specs.declared.letters.Base.{Base}
use Rattle.fuun_base.specs.declared.letters.Base.TheVariants.{I, C, F, P}
use Rattle.fuun_base.specs.Letter.{letter_of}
use Rattle.fuun_base.specs.Lines.{lines, before_lines}
use Rattle.dna_items.specs.declared.items.PatItem.{PatItem}
use Rattle.dna_items.specs.declared.items.PatItem.TheVariants.{Base as Literal, Skip, Search, GroupStart, GroupStop}
use Rattle.dna_items.specs.declared.items.TplItem.{TplItem}
use Rattle.dna_items.specs.declared.items.TplItem.TheVariants.{Base as TplLiteral, Group, Len}
use Rattle.dna_reader.specs.Codes.{pair_code}
use Rattle.dna_reader.specs.Pairs.{PatternRunsOut}
use Rattle.dna_reader.specs.Tables.{pattern_table}
use Rattle.dna_reader.proofs.CodeLemmas.{pair_code_is_read}
use Rattle.dna_reader.proofs.PairLemmas.{pattern_without_rna}
use Rattle.dna_reader.proofs.ReadableLemmas.{only_readable_is_read}
use Rattle.dna_reader.proofs.ReadingLemmas.{reads_none}
use Rattle.dna_reader.proofs.TableLemmas.{pattern_fits}
use Rattle.listing.specs.Lists.{ListsFrom, pair_line, last_line}
use Rattle.listing.specs.Texts.{number_text, letters_text, pattern_item_text, template_item_text, pattern_text, template_text, pair_text}
use Rattle.listing.proofs.TextLemmas.{small_text}
use Rattle.assembler.specs.Answers.{Pair, AreTexts, pairs_code, ReadsPairs}
use Rattle.assembler.specs.Laws.{shown_from, ListingShowsLines, IsSmallPair, pairs_text, ListedIsAssembled}
use Rattle.assembler.specs.Pairs.{HasSmallSkip, HasSmallNumbers, IsPair}
use Rattle.assembler.proofs.AnswerLemmas.{texts_are_read}

-- a listing shows the lines

line_shown : (len place : ℕ) (line : List ℕ) (pair : Pair) (left : List Base) → IsPair line pair.0 pair.1 → place + length left ≡ len
    → number_text place ++ (codes " " ++ (line ++ codes "\n")) ≡ pair_line (len - length left) pair.0 pair.1
line_shown len place line pair left is whole =
    let here : place ≡ len - length left = omega arith in
    ap (λ n. number_text n ++ (codes " " ++ (line ++ codes "\n"))) here ∙ ap (λ l. number_text (len - length left) ++ (codes " " ++ (l ++ codes "\n"))) is.text

lists_lines : (len place count : ℕ) (all : List (List ℕ)) (pairs : List Pair) → AreTexts all pairs → place + length (pairs_code pairs) ≡ len → ListsFrom len count (pairs_code pairs) (shown_from count place all pairs)
lists_lines len place zero all pairs texts whole = refl
lists_lines len place (suc count) [] [] texts whole =
    let here : place ≡ len - 0 = omega arith in
    inl (([], PatternRunsOut (reads_none pattern_table pattern_fits 0 [] refl)), ap last_line here)
lists_lines len place (suc count) [] (pair ∷ pairs) texts whole = absurd texts
lists_lines len place (suc count) (line ∷ all) [] texts whole = absurd texts
lists_lines len place (suc count) (line ∷ all) (pair ∷ pairs) texts whole =
    let code : List Base = pair_code pair.0 pair.1 in
    let rest : List Base = pairs_code pairs in
    let next : ℕ = place + length code in
    let behind = lists_lines len next count all pairs texts.2 (omega (arith, length-append code rest)) in
    inr (
      pair.0,
      pair.1,
      rest,
      shown_from count next all pairs,
      ([], pair_code_is_read pair.0 pair.1 rest texts.1),
      behind,
      ap (λ l. l ++ shown_from count next all pairs) (line_shown len place line pair (code ++ rest) texts.0 whole),
    )

pub listing_shows_lines : ListingShowsLines
listing_shows_lines all pairs count texts = lists_lines (length (pairs_code pairs)) 0 count all pairs texts (omega arith)

-- lines without line feeds

abbrev pub HasNoFeed : List ℕ → Type 0
HasNoFeed bytes = AllByRecursion (λ byte. byte == 10 ≡ false) bytes

pub both_clear : (a b : List ℕ) → HasNoFeed a → HasNoFeed b → HasNoFeed (a ++ b)
both_clear [] b x y = y
both_clear (byte ∷ a) b x y = (x.0, both_clear a b x.1 y)

digits_clear : (digits : List ℕ) → AllDigits 10 digits → HasNoFeed digits
digits_clear [] is = tt
digits_clear (byte ∷ digits) is = (ne_eqb byte 10 (λ e. omega (arith, digit_from_value byte is.0)), digits_clear digits is.1)

number_clear : (n : ℕ) → n < 2 ^ 63 → HasNoFeed (number_text n)
number_clear n small = subst HasNoFeed (sym (small_text n small)) (digits_clear (decimal n) (decimal_is_IsNumeral n (omega arith)).0.1)

letter_clear : (b : Base) → letter_of b == 10 ≡ false
letter_clear I = refl
letter_clear C = refl
letter_clear F = refl
letter_clear P = refl

letters_clear : (s : List Base) → HasNoFeed (letters_text s)
letters_clear [] = tt
letters_clear (b ∷ s) = (letter_clear b, letters_clear s)

pattern_item_clear : (x : PatItem) → HasSmallSkip x → HasNoFeed (pattern_item_text x)
pattern_item_clear (Literal b) small = (letter_clear b, tt)
pattern_item_clear (Skip n) small = (refl, number_clear n small)
pattern_item_clear (Search s) small = (refl, both_clear (letters_text s) (codes ">") (letters_clear s) (refl, tt))
pattern_item_clear GroupStart small = (refl, tt)
pattern_item_clear GroupStop small = (refl, tt)

template_item_clear : (x : TplItem) → HasSmallNumbers x → HasNoFeed (template_item_text x)
template_item_clear (TplLiteral b) small = (letter_clear b, tt)
template_item_clear (Group n level) small =
    (refl, both_clear (number_text n) (codes "," ++ (number_text level ++ codes "}")) (number_clear n small.0) (refl, both_clear (number_text level) (codes "}") (number_clear level small.1) (refl, tt)))
template_item_clear (Len n) small = (refl, both_clear (number_text n) (codes "|") (number_clear n small) (refl, tt))

items_clear : {X : Type 0} (text : X → List ℕ) (Small : X → Type 0) → ((x : X) → Small x → HasNoFeed (text x)) → (xs : List X) → AllByRecursion Small xs → HasNoFeed (flat_map text xs)
items_clear text Small clear [] small = tt
items_clear text Small clear (x ∷ xs) small = both_clear (text x) (flat_map text xs) (clear x small.0) (items_clear text Small clear xs small.1)

pub pair_clear : (pair : Pair) → IsSmallPair pair → HasNoFeed (pair_text pair.0 pair.1)
pair_clear pair small =
    both_clear (pattern_text pair.0) (codes " -> " ++ template_text pair.1) (items_clear pattern_item_text HasSmallSkip pattern_item_clear pair.0 small.0)
    (refl, (refl, (refl, (refl, items_clear template_item_text HasSmallNumbers template_item_clear pair.1 small.1))))

pub line_of : (line rest : List ℕ) → HasNoFeed line → lines (line ++ (10 ∷ rest)) ≡ line ∷ lines rest
line_of [] rest clear = refl
line_of (byte ∷ line) rest clear = rw clear.0 (ap (before_lines byte) (line_of line rest clear.1))

-- the lines of pairs
abbrev pairs_lines : List Pair → List (List ℕ)
pairs_lines pairs = map (λ pair. pair_text pair.0 pair.1) pairs

lines_of : (pairs : List Pair) → AllByRecursion IsSmallPair pairs → lines (pairs_text pairs) ≡ pairs_lines pairs
lines_of [] small = refl
lines_of (pair ∷ pairs) small =
    let line : List ℕ = pair_text pair.0 pair.1 in
    ap lines (append_assoc line (codes "\n") (pairs_text pairs)) ∙ line_of line (pairs_text pairs) (pair_clear pair small.0) ∙ ap (λ l. line ∷ l) (lines_of pairs small.1)

texts_of : (d : List Base) (pairs : List Pair) (rest : List Base) → ReadsPairs d pairs rest → AllByRecursion IsSmallPair pairs → AreTexts (pairs_lines pairs) pairs
texts_of d [] rest reads small = tt
texts_of d (pair ∷ pairs) rest reads small = (
  record { text = refl; small_pattern = small.0.0; small_template = small.0.1 },
  only_readable_is_read d pair.0 reads.1.middle (pattern_without_rna d pair.0 pair.1 reads.0 reads.1),
  texts_of reads.0 pairs rest reads.2 small.1,
)

pub listed_is_assembled : ListedIsAssembled
listed_is_assembled d pairs rest reads small =
    let texts = texts_of d pairs rest reads small in
    ((pairs, subst (λ l. AreTexts l pairs) (sym (lines_of pairs small)) texts, refl), texts_are_read (pairs_lines pairs) pairs texts)
