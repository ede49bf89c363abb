-- Items written as DNA are read again.
use Rattle.std.proofs.Common.{◌≡◌, ℕ, zero, suc, ◌+◌, ◌-◌, ◌*◌, ◌/◌, ◌%◌, ◌≤◌, inl, inr, Bool, true, false, Option, Some, List, [], ◌∷◌, ◌++◌, length, take, drop, min, flat_map, arith, refl, ap, sym, ◌∙◌, subst, length-append, append-nil}
use Rattle.std.specs.Prelude.{nat_lt, ◌==◌, ◌||◌}
use Rattle.std.specs.Option.{option_map}
use Rattle.std.proofs.lemmas.Bool.{cases_eq, eq-eqb, ne_eqb, lt-ltb}
use Rattle.std.proofs.lemmas.List.{append_assoc}
use Rattle.std.proofs.Math.Seq.{drop-append_seam}
use Rattle.fuun_base.specs.declared.letters.Base.{Base}
use Rattle.fuun_base.specs.declared.letters.Base.TheVariants.{I, C, F, P}
use Rattle.fuun_base.specs.Quote.{quote, digit_base, asnat}
use Rattle.fuun_base.proofs.AsnatLemmas.{asnat-zero, asnat-digit}
use Rattle.dna_items.specs.declared.items.PatItem.{PatItem}
use Rattle.dna_items.specs.declared.items.PatItem.TheVariants.{Base as Literal, Skip, Search, GroupStart, GroupStop}
use Rattle.dna_items.specs.declared.items.TplItem.{TplItem}
use Rattle.dna_items.specs.declared.items.TplItem.TheVariants.{Base as TplLiteral, Group, Len}
use Rattle.dna_items.specs.Balance.{start_of, stop_of, starts, stops}
use Rattle.dna_reader.specs.CodeLaws.{NumberIsRead, PatternCodeIsRead, TemplateCodeIsRead, PairCodeIsRead}
use Rattle.dna_reader.specs.Codes.{end_code, pattern_item_code, template_item_code, pattern_code, template_code, has_search_before_base}
use Rattle.dna_reader.specs.Constants.{consts}
use Rattle.dna_reader.specs.Numeral.{numeral}
use Rattle.dna_reader.specs.Piece.{GivesItem, GivesEnd, Piece, pattern_piece, template_piece, reference}
use Rattle.dna_reader.specs.Reading.{Table, Read, ReadsFrom}
use Rattle.dna_reader.specs.ReadingLaws.{TakesWhatIsThere}
use Rattle.dna_reader.specs.Tables.{pattern_table, template_table}
use Rattle.dna_reader.proofs.ConstantLemmas.{consts-quote}
use Rattle.dna_reader.proofs.NumeralLemmas.{numeral_by_digits}
use Rattle.dna_reader.proofs.ReadingLemmas.{reads_more, reads_end}
use Rattle.dna_reader.proofs.TableLemmas.{pattern_fits, template_fits}

-- numbers

digit_value : Bool → ℕ
digit_value true = 0
digit_value false = 1

numeral_digit : (even : Bool) (d : List Base) (value takes : ℕ) → numeral d ≡ Some (value, takes) → numeral (digit_base even ∷ d) ≡ Some (digit_value even + 2 * value, takes + 1)
unfolding digit_value
numeral_digit true d value takes e =
    let none : 2 * value ≡ 0 + 2 * value = omega arith in
    let pair : ℕ → Option (ℕ × ℕ) = λ v. Some (v, takes + 1) in
    (numeral_by_digits d).1 ∙ ap (λ o. option_map (λ n. (2 * n.0, n.1 + 1)) o) e ∙ ap pair none
numeral_digit false d value takes e = (numeral_by_digits d).0 ∙ ap (λ o. option_map (λ n. (1 + 2 * n.0, n.1 + 1)) o) e

halved : (n : ℕ) → digit_value (n % 2 == 0) + 2 * (n / 2) ≡ n
unfolding digit_value
halved n =
    elim (cases_eq (n % 2) 0) [
      | inl even ↦ rw (eq-eqb (n % 2) 0 even) (omega arith)
      | inr odd ↦ rw (ne_eqb (n % 2) 0 odd) (omega arith)
    ]

numeral_within_most : (most n : ℕ) (rest : List Base) → n ≤ most → numeral (asnat n ++ rest) ≡ Some (n, length (asnat n))
numeral_within_most most zero rest few = rw (asnat-zero) (numeral_by_digits rest).3
numeral_within_most zero (suc n) rest few = absurd (omega arith)
numeral_within_most (suc most) (suc n) rest few =
    let half : ℕ = suc n / 2 in
    let further : numeral (asnat half ++ rest) ≡ Some (half, length (asnat half)) = numeral_within_most most half rest (omega arith) in
    let more : length (asnat half) + 1 ≡ suc (length (asnat half)) = omega arith in
    let pair : ℕ → ℕ → Option (ℕ × ℕ) = λ v t. Some (v, t) in
    rw (asnat-digit (suc n) (omega arith))
    (numeral_digit (suc n % 2 == 0) (asnat half ++ rest) half (length (asnat half)) further
    ∙ ap (λ v. pair v (length (asnat half) + 1)) (halved (suc n))
    ∙ ap (λ t. pair (suc n) t) more)

pub number_is_read : NumberIsRead
number_is_read n rest = numeral_within_most n n rest (omega arith)

-- tables

-- the code of an item is what a table takes where the item is allowed, and the end stands where no item is left
record IsCodedBy {Item : Type 0} (table : Table Item) (code : Item → List Base) (IsAllowed : ℕ → List Item → Type 0) : Type 0 where
  first : (groups : ℕ) (x : Item) (items : List Item) (rest : List Base) → IsAllowed groups (x ∷ items)
      → table.piece_of (nat_lt 0 groups) (code x ++ (flat_map code items ++ (end_code ++ rest))) ≡ Some (record { takes = length (code x); gives = GivesItem x })
  others : (groups : ℕ) (x : Item) (items : List Item) → IsAllowed groups (x ∷ items) → IsAllowed (table.opened_by groups x) items
  last : (groups : ℕ) (rest : List Base) → IsAllowed groups [] → table.piece_of (nat_lt 0 groups) (end_code ++ rest) ≡ Some (record { takes = 3; gives = GivesEnd })

code_is_read : {Item : Type 0} (table : Table Item) (fits : TakesWhatIsThere table) (code : Item → List Base) (IsAllowed : ℕ → List Item → Type 0) → IsCodedBy table code IsAllowed
    → (groups : ℕ) (items : List Item) (rest : List Base) → IsAllowed groups items → ReadsFrom table groups (flat_map code items ++ (end_code ++ rest)) (Read items [] rest)
code_is_read {Item} table fits code IsAllowed coded groups [] rest allowed =
    let piece : Piece Item = record { takes = 3; gives = GivesEnd } in
    reads_end table fits groups (end_code ++ rest) piece (coded.last groups rest allowed) refl
code_is_read {Item} table fits code IsAllowed coded groups (x ∷ items) rest allowed =
    let behind : List Base = flat_map code items ++ (end_code ++ rest) in
    let piece : Piece Item = record { takes = length (code x); gives = GivesItem x } in
    let further : ReadsFrom table (table.opened_by groups x) behind (Read items [] rest) =
    code_is_read table fits code IsAllowed coded (table.opened_by groups x) items rest (coded.others groups x items allowed) in
    let there : ReadsFrom table (table.opened_by groups x) (drop (length (code x)) (code x ++ behind)) (Read items [] rest) =
    subst (λ l. ReadsFrom table (table.opened_by groups x) l (Read items [] rest)) (sym (drop-append_seam (code x) behind)) further in
    subst (λ l. ReadsFrom table groups l (Read (x ∷ items) [] rest)) (sym (append_assoc (code x) (flat_map code items) (end_code ++ rest)))
    (reads_more table fits groups (code x ++ behind) piece (Read items [] rest) (coded.first groups x items rest allowed) refl there)

-- templates

-- a template may have any items
abbrev IsAny : ℕ → List TplItem → Type 0
IsAny groups items = Unit {0}

two_numbers : (n level : ℕ) (rest : List Base) → reference ((asnat level ++ asnat n) ++ rest) ≡ Some (record { takes = 2 + length (asnat level) + length (asnat n); gives = GivesItem (Group n level) })
two_numbers n level rest =
    let first : numeral ((asnat level ++ asnat n) ++ rest) ≡ Some (level, length (asnat level)) =
    ap numeral (append_assoc (asnat level) (asnat n) rest) ∙ number_is_read level (asnat n ++ rest) in
    let second : numeral (drop (length (asnat level)) ((asnat level ++ asnat n) ++ rest)) ≡ Some (n, length (asnat n)) =
    ap (λ l. numeral (drop (length (asnat level)) l)) (append_assoc (asnat level) (asnat n) rest)
    ∙ ap numeral (drop-append_seam (asnat level) (asnat n ++ rest))
    ∙ number_is_read n rest in
    rw first (rw second refl)

-- a piece of an item that takes so many bases
abbrev piece_of : {Item : Type 0} → Item → ℕ → Option (Piece Item)
piece_of x n = Some (record { takes = n; gives = GivesItem x })

template_first : (x : TplItem) (behind : List Base) → template_piece (template_item_code x ++ behind) ≡ piece_of x (length (template_item_code x))
template_first (TplLiteral I) behind = refl
template_first (TplLiteral C) behind = refl
template_first (TplLiteral F) behind = refl
template_first (TplLiteral P) behind = refl
template_first (Group n level) behind =
    let size : 2 + length (asnat level) + length (asnat n) ≡ suc (suc (length (asnat level ++ asnat n))) = omega (arith, length-append (asnat level) (asnat n)) in
    two_numbers n level behind ∙ ap (piece_of (Group n level)) size
template_first (Len n) behind =
    let size : 3 + length (asnat n) ≡ suc (suc (suc (length (asnat n)))) = omega arith in
    ap (λ o. option_map (λ n. record { takes = 3 + n.1; gives = GivesItem (Len n.0) }) o) (number_is_read n behind) ∙ ap (piece_of (Len n)) size

templates_are_coded : IsCodedBy template_table template_item_code IsAny
templates_are_coded = record {
  first = λ groups x items rest allowed. template_first x (flat_map template_item_code items ++ (end_code ++ rest));
  others = λ groups x items allowed. tt;
  last = λ groups rest allowed. refl;
}

pub template_code_is_read : TemplateCodeIsRead
template_code_is_read items rest = code_is_read template_table template_fits template_item_code IsAny templates_are_coded 0 items rest tt

-- patterns

-- the items close the groups that are open, and no search stands before a base
record IsLeft (groups : ℕ) (items : List PatItem) : Type 0 where
  even : groups + starts items ≡ stops items
  fronts : (n : ℕ) → stops (take n items) ≤ groups + starts (take n items)
  apart : has_search_before_base items ≡ false

or_false : (a b : Bool) → (a || b) ≡ false → (a ≡ false) × (b ≡ false)
or_false false b e = (refl, e)
or_false true b e = cc

apart_behind : (x : PatItem) (items : List PatItem) → has_search_before_base (x ∷ items) ≡ false → has_search_before_base items ≡ false
apart_behind x [] e = refl
apart_behind x (y ∷ items) e = (or_false _ _ e).1

left_behind : (groups : ℕ) (x : PatItem) (items : List PatItem) → IsLeft groups (x ∷ items) → IsLeft (groups + start_of x - stop_of x) items
left_behind groups x items left =
    let one : stop_of x + 0 ≤ groups + (start_of x + 0) = left.fronts 1 in
    record {
      even = omega (arith, left.even, one);
      fronts = λ n. omega (arith, left.fronts (suc n), one);
      apart = apart_behind x items left.apart;
    }

-- behind a search no constants follow
no_constants : (s : List Base) (items : List PatItem) (rest : List Base) → has_search_before_base (Search s ∷ items) ≡ false → consts (pattern_code items ++ (end_code ++ rest)) ≡ []
no_constants s [] rest apart = refl
no_constants s (Literal b ∷ items) rest apart = cc
no_constants s (Skip n ∷ items) rest apart = refl
no_constants s (Search t ∷ items) rest apart = refl
no_constants s (GroupStart ∷ items) rest apart = refl
no_constants s (GroupStop ∷ items) rest apart = refl

search_first : (is_open : Bool) (s behind : List Base) → consts behind ≡ [] → pattern_piece is_open (I ∷ F ∷ F ∷ (quote s ++ behind)) ≡ piece_of (Search s) (length (I ∷ F ∷ F ∷ quote s))
search_first is_open s behind none =
    let found : consts (quote s ++ behind) ≡ s = consts-quote s behind ∙ ap (λ l. s ++ l) none ∙ append-nil s in
    let one : 2 + min 1 (suc (length (quote s ++ behind))) + length (quote s) ≡ suc (suc (suc (length (quote s)))) = omega arith in
    rw found (ap (piece_of (Search s)) one)

pattern_first : (groups : ℕ) (x : PatItem) (items : List PatItem) (rest : List Base) → IsLeft groups (x ∷ items)
    → pattern_piece (nat_lt 0 groups) (pattern_item_code x ++ (pattern_code items ++ (end_code ++ rest))) ≡ piece_of x (length (pattern_item_code x))
pattern_first groups (Literal I) items rest left = refl
pattern_first groups (Literal C) items rest left = refl
pattern_first groups (Literal F) items rest left = refl
pattern_first groups (Literal P) items rest left = refl
pattern_first groups (Skip n) items rest left =
    let size : 2 + length (asnat n) ≡ suc (suc (length (asnat n))) = omega arith in
    ap (λ o. option_map (λ n. record { takes = 2 + n.1; gives = GivesItem (Skip n.0) }) o) (number_is_read n (pattern_code items ++ (end_code ++ rest))) ∙ ap (piece_of (Skip n)) size
pattern_first groups (Search s) items rest left = search_first (nat_lt 0 groups) s (pattern_code items ++ (end_code ++ rest)) (no_constants s items rest left.apart)
pattern_first groups GroupStart items rest left = refl
pattern_first groups GroupStop items rest left =
    let opened : 1 ≤ groups + 0 = left.fronts 1 in
    rw (lt-ltb 0 groups (omega arith)) refl

patterns_are_coded : IsCodedBy pattern_table pattern_item_code IsLeft
patterns_are_coded = record {
  first = pattern_first;
  others = left_behind;
  last = λ groups rest left. let none : groups + 0 ≡ 0 = left.even in let is : groups ≡ 0 = omega arith in rw is refl;
}

pub pattern_code_is_read : PatternCodeIsRead
pattern_code_is_read items rest is =
    code_is_read pattern_table pattern_fits pattern_item_code IsLeft patterns_are_coded 0 items rest (record {
      even = omega (arith, is.balanced.even);
      fronts = λ n. omega (arith, is.balanced.fronts n);
      apart = is.apart;
    })

-- pairs

pair_before : (a b rest : List Base) → (a ++ (end_code ++ (b ++ end_code))) ++ rest ≡ a ++ (end_code ++ (b ++ (end_code ++ rest)))
pair_before a b rest = append_assoc a (end_code ++ (b ++ end_code)) rest ∙ ap (λ l. a ++ (end_code ++ l)) (append_assoc b end_code rest)

pub pair_code_is_read : PairCodeIsRead
pair_code_is_read pattern template rest is = record {
  pattern_rna = [];
  template_rna = [];
  middle = template_code template ++ (end_code ++ rest);
  reads_pattern = subst (λ l. ReadsFrom pattern_table 0 l (Read pattern [] (template_code template ++ (end_code ++ rest)))) (sym (pair_before (pattern_code pattern) (template_code template) rest))
      (pattern_code_is_read pattern (template_code template ++ (end_code ++ rest)) is);
  reads_template = template_code_is_read template rest;
  whole = refl;
}
