-- Texts that are assembled and listed, and listings that are assembled.
use Rattle.std.proofs.Common.{◌≡◌, inl, inr, ℕ, ◌^◌, ◌==◌, false, Some, Result, Ok, Err, List, [], ◌∷◌, ◌++◌, codes, decimal, flat_map, length, ◌-◌, refl, sym, ap, ◌∙◌, subst, arith, append_assoc}
use Rattle.std.specs.List.{AllByRecursion}
use Rattle.std.specs.Str.Parse.{AllDigits}
use Rattle.std.proofs.lemmas.Bool.{cases_lt, ne_eqb}
use Rattle.std.proofs.lemmas.Fmt.{decimal_is_IsNumeral}
use Rattle.std.proofs.lemmas.Str.Parse.{digit_from_value}
use Rattle.fuun_base.specs.declared.letters.Base.{Base}
use Rattle.fuun_base.specs.Lines.{lines}
use Rattle.dna_reader.proofs.PairLemmas.{one_pair, pairs_do_not_run_out}
use Rattle.listing.specs.Lists.{IsListing, ListsFrom, pair_line}
use Rattle.listing.specs.Texts.{number_text, pair_text}
use Rattle.listing.proofs.ListLemmas.{one_listing}
use Rattle.listing.proofs.TextLemmas.{big_text, small_text}
use Rattle.assembler.specs.declared.assembling.AsmError.{AsmError}
use Rattle.assembler.specs.declared.assembling.AsmError.TheVariants as assemble
use Rattle.assembler.specs.Answers.{IsAssembled, Pair, ReadsPairs, pairs_code}
use Rattle.assembler.specs.Laws.{IsSmallPair, pairs_text, shown_from}
use Rattle.assembler.proofs.AnswerLemmas.{answer_is_one}
use Rattle.assembler.proofs.Listed.{HasNoFeed, both_clear, line_of, listed_is_assembled, listing_shows_lines, pair_clear}
use Rattle.fuun_top.specs.Chaining.{Gives, IsKept, behind_place, without_places}
use Rattle.fuun_top.specs.MadeChains.{AssembledIsListed, ListedIsAssembledAgain}
use Rattle.fuun_top.specs.Making.{IsMade, assemble_refusal, told}
use Rattle.fuun_top.specs.Output.{IsAnswer, IsListingOutput, Output, OutputBy, answered}
use Rattle.fuun_top.specs.Reading.{Files, Reading, dna_in, then_read}
use Rattle.fuun_top.specs.Texts.{letters}
use Rattle.fuun_top.specs.declared.inputs.Inputs.TheVariants as inputs
use Rattle.fuun_top.specs.declared.request.TextVerb.TheVariants as texts
use Rattle.fuun_top.specs.declared.status.InFile.TheVariants as file
use Rattle.fuun_top.specs.declared.status.Status.TheVariants.{Done}
use Rattle.fuun_words.specs.declared.request.Request.TheVariants as words
use Rattle.fuun_top.proofs.ReadBack.{output_by, given_text, dna_back, kept_text}

-- what was assembled, where there was no refusal
pub record Assembled (text : List ℕ) (output : Output) : Type 0 where
  pub code : List Base
  pub is : IsAssembled text (Ok code)
  pub tells : output ≡ record { status = Done; bytes = letters code }

by_answer : (text : List ℕ) (output : Output) (answer : Result (List Base) AsmError) → IsAssembled text answer → output ≡ answered letters (told assemble_refusal answer) → output.status ≡ Done → Assembled text output
by_answer text output (Ok code) is tells done = record { code = code; is = is; tells = tells }
by_answer text output (Err (assemble.BadText number)) is tells done = absurd (cc (tells, done))
by_answer text output (Err (assemble.Unreadable number)) is tells done = absurd (cc (tells, done))
by_answer text output (Err assemble.NoMemory) is tells done = absurd is

pub assembled_of : (text : List ℕ) (output : Output) → IsAnswer (IsMade texts.Assemble text) letters output → output.status ≡ Done → Assembled text output
assembled_of text output answer done = by_answer text output answer.is.answer answer.is.is (answer.tells ∙ ap (answered letters) answer.is.tells) done

-- the listing of a DNA that was read
listing_of : (files : Files) (name : List ℕ) (dna : List Base) (count : ℕ) (output : Output) → dna_in files file.Dna name ≡ Some (Ok dna) → Gives files (words.List name count) output → IsListingOutput dna count output
listing_of files name dna count output reads gives =
    subst (λ (reading : Reading (List Base)). OutputBy (then_read reading (λ d. Some (Ok (inputs.Listing d count)))) output) reads
    (output_by files (words.List name count) output gives)

shown : (dna : List Base) (pairs : List Pair) (all : List (List ℕ)) (count : ℕ) (output : Output) → dna ≡ pairs_code pairs → IsListing (pairs_code pairs) count (shown_from count 0 all pairs)
    → IsListingOutput dna count output → output ≡ record { status = Done; bytes = shown_from count 0 all pairs }
shown dna pairs all count output same lists listing =
    listing.is ∙ ap (λ (text : List ℕ). record { status = Done; bytes = text })
    (one_listing (pairs_code pairs) count listing.text (shown_from count 0 all pairs) (subst (λ d. IsListing d count listing.text) same listing.lists) lists)

pub assembled_is_listed : AssembledIsListed
assembled_is_listed files later source name text count assembled listed holds made done kept lists =
    let taken = assembled_of text assembled (given_text files texts.Assemble source text assembled holds (output_by files (words.Assemble source) assembled made) done) done in
    let written : IsKept later name (letters taken.code) = subst (λ (o : Output). IsKept later name o.bytes) taken.tells kept in
    let pairs = taken.is.0 in
    let listing = listing_of later name taken.code count listed (dna_back later file.Dna name taken.code written) lists in
    (pairs, taken.is.1, shown taken.code pairs (lines text) count listed taken.is.2 (listing_shows_lines (lines text) pairs count taken.is.1) listing)

-- a line of a listing without its place

abbrev HasNoSpace : List ℕ → Type 0
HasNoSpace bytes = AllByRecursion (λ byte. byte == 32 ≡ false) bytes

digits_have_no_feed : (digits : List ℕ) → AllDigits 10 digits → HasNoFeed digits
digits_have_no_feed [] is = tt
digits_have_no_feed (byte ∷ digits) is = (ne_eqb byte 10 (λ e. omega (arith, digit_from_value byte is.0)), digits_have_no_feed digits is.1)

digits_have_no_space : (digits : List ℕ) → AllDigits 10 digits → HasNoSpace digits
digits_have_no_space [] is = tt
digits_have_no_space (byte ∷ digits) is = (ne_eqb byte 32 (λ e. omega (arith, digit_from_value byte is.0)), digits_have_no_space digits is.1)

place_is_clear : (place : ℕ) → HasNoFeed (number_text place) × HasNoSpace (number_text place)
place_is_clear place =
    elim (cases_lt place (2 ^ 63)) [
      | inl small ↦
          let digits = (decimal_is_IsNumeral place (omega arith)).0.1 in
          let text = sym (small_text place small) in
          (subst HasNoFeed text (digits_have_no_feed (decimal place) digits), subst HasNoSpace text (digits_have_no_space (decimal place) digits))
      | inr big ↦
          let text = sym (big_text place big) in
          (subst HasNoFeed text (refl, (refl, (refl, tt))), subst HasNoSpace text (refl, (refl, (refl, tt))))
    ]

place_cut : (place text : List ℕ) → HasNoSpace place → behind_place (place ++ (codes " " ++ text)) ≡ text
place_cut [] text clear = refl
place_cut (byte ∷ place) text clear = rw clear.0 (place_cut place text clear.1)

line_cut : (place text more : List ℕ) → HasNoFeed place → HasNoSpace place → HasNoFeed text
    → without_places ((place ++ (codes " " ++ (text ++ codes "\n"))) ++ more) ≡ (text ++ codes "\n") ++ without_places more
line_cut place text more no_feed no_space text_clear =
    let line : List ℕ = place ++ (codes " " ++ text) in
    let whole : (place ++ (codes " " ++ (text ++ codes "\n"))) ++ more ≡ line ++ (10 ∷ more) =
    ap (λ l. l ++ more) (sym (append_assoc place (codes " " ++ text) (codes "\n"))) ∙ append_assoc line (codes "\n") more in
    ap without_places whole
    ∙ ap (λ (all : List (List ℕ)). flat_map (λ l. behind_place l ++ codes "\n") all) (line_of line more (both_clear place (codes " " ++ text) no_feed (refl, text_clear)))
    ∙ ap (λ l. (l ++ codes "\n") ++ without_places more) (place_cut place text no_space)

listing_cut : (len : ℕ) (left : List Base) (pairs : List Pair) (rest : List Base) (text : List ℕ) → ReadsPairs left pairs rest → AllByRecursion IsSmallPair pairs
    → ListsFrom len (length pairs) left text → without_places text ≡ pairs_text pairs
listing_cut len left [] rest text reads small lists = ap without_places lists
listing_cut len left (pair ∷ pairs) rest text reads small (inl none) = absurd (pairs_do_not_run_out left pair.0 pair.1 [] none.0.0 reads.0 reads.1 none.0.1)
listing_cut len left (pair ∷ pairs) rest text reads small (inr (pattern, template, next, more, stands, lists, is)) =
    let place : ℕ = len - length left in
    let same = one_pair left pattern pair.0 template pair.1 stands.0 [] next reads.0 stands.1 reads.1 in
    let begins : text ≡ pair_line place pair.0 pair.1 ++ more = is ∙ ap (λ p. pair_line place p template ++ more) same.pattern ∙ ap (λ t. pair_line place pair.0 t ++ more) same.template in
    let behind = listing_cut len reads.0 pairs rest more reads.2 small.1 (subst (λ d. ListsFrom len (length pairs) d more) same.rest lists) in
    let clear = place_is_clear place in
    ap without_places begins
    ∙ line_cut (number_text place) (pair_text pair.0 pair.1) more clear.0 clear.1 (pair_clear pair small.0)
    ∙ ap (λ l. (pair_text pair.0 pair.1 ++ codes "\n") ++ l) behind

again_is : (text : List ℕ) (code : List Base) (output : Output) → IsAssembled text (Ok code) → IsAnswer (IsMade texts.Assemble text) letters output → output ≡ record { status = Done; bytes = letters code }
again_is text code output is answer =
    answer.tells ∙ ap (answered letters) answer.is.tells ∙ ap (λ a. answered letters (told assemble_refusal a)) (answer_is_one (lines text) answer.is.answer (Ok code) answer.is.is is)

pub listed_is_assembled_again : ListedIsAssembledAgain
listed_is_assembled_again files later name text dna rest pairs listed assembled read reads small lists kept made =
    let listing = listing_of files name dna (length pairs) listed read lists in
    let cut : without_places listed.bytes ≡ pairs_text pairs =
    ap (λ (o : Output). without_places o.bytes) listing.is ∙ listing_cut (length dna) dna pairs rest listing.text reads small listing.lists in
    let holds : IsKept later text (pairs_text pairs) = subst (IsKept later text) cut kept in
    let again = listed_is_assembled dna pairs rest reads small in
    (again_is (pairs_text pairs) (pairs_code pairs) assembled again.0 (kept_text later texts.Assemble text (pairs_text pairs) assembled holds (output_by later (words.Assemble text) assembled made)), again.1)
