-- A reading that comes to its end is that of each longer DNA.
use Rattle.std.proofs.Common.{◌≡◌, ℕ, suc, ◌+◌, ◌*◌, ◌≤◌, ◌⊎◌, inl, inr, Bool, true, false, Option, Some, None, List, [], ◌∷◌, ◌++◌, length, take, drop, min, arith, refl, ap, sym, ◌∙◌, subst, append_assoc}
use Rattle.std.specs.Prelude.{nat_lt}
use Rattle.std.specs.Option.{option_map, option_and_then}
use Rattle.std.proofs.lemmas.Option.{none-some, same_Some}
use Rattle.std.proofs.lemmas.Bool.{cases_lt}
use Rattle.std.proofs.lemmas.List.{drop_all, take_all, take-append-le, drop-append-le}
use Rattle.std.proofs.Math.Seq.{drop-append_seam}
use Rattle.fuun_base.specs.declared.letters.Base.{Base}
use Rattle.fuun_base.specs.declared.letters.Base.TheVariants.{I, C, F, P}
use Rattle.fuun_base.specs.Quote.{quote}
use Rattle.dna_items.specs.declared.items.PatItem.{PatItem}
use Rattle.dna_items.specs.declared.items.PatItem.TheVariants.{Search, Skip}
use Rattle.dna_items.specs.declared.items.TplItem.{TplItem}
use Rattle.dna_items.specs.declared.items.TplItem.TheVariants.{Group, Len}
use Rattle.dna_reader.specs.Constants.{consts}
use Rattle.dna_reader.specs.Numeral.{numeral}
use Rattle.dna_reader.specs.Piece.{GivesItem, GivesCommand, Piece, pattern_piece, template_piece, reference, command}
use Rattle.dna_reader.specs.Reading.{Table, Cut, joined, open_after, is_end, is_ended, IsCutBy, AreCutBy, IsCutting, items_of, commands_of, Read, reading_of, ReadsFrom}
use Rattle.dna_reader.specs.Tables.{pattern_table, template_table}
use Rattle.dna_reader.proofs.NumeralLemmas.{numeral_by_digits}
use Rattle.dna_reader.proofs.ReadingLemmas.{read_is}
use Rattle.explainer.specs.Laws.{ReadsLonger}

-- numerals

mapped_some : {A B : Type 0} (f : A → B) (o : Option A) (y : B) → option_map f o ≡ Some y → (x : A) × (o ≡ Some x)
mapped_some f None y e = absurd (none-some y e)
mapped_some f (Some x) y e = (x, refl)

numeral_digit_longer : (d e : List Base) (f : ℕ × ℕ → ℕ × ℕ) (n : ℕ × ℕ) → ((m : ℕ × ℕ) → numeral d ≡ Some m → numeral e ≡ Some m)
    → option_map f (numeral d) ≡ Some n → option_map f (numeral e) ≡ Some n
numeral_digit_longer d e f n more is =
    let found = mapped_some f (numeral d) n is in
    ap (option_map f) (more found.0 found.1 ∙ sym found.1) ∙ is

numeral_longer : (d more : List Base) (n : ℕ × ℕ) → numeral d ≡ Some n → numeral (d ++ more) ≡ Some n
numeral_longer [] more n is = absurd (none-some n (sym (numeral_by_digits []).4 ∙ is))
numeral_longer (C ∷ d) more n is =
    (numeral_by_digits (d ++ more)).0 ∙ numeral_digit_longer d (d ++ more) (λ m. (1 + 2 * m.0, m.1 + 1)) n (numeral_longer d more) (sym (numeral_by_digits d).0 ∙ is)
numeral_longer (I ∷ d) more n is =
    (numeral_by_digits (d ++ more)).1 ∙ numeral_digit_longer d (d ++ more) (λ m. (2 * m.0, m.1 + 1)) n (numeral_longer d more) (sym (numeral_by_digits d).1 ∙ is)
numeral_longer (F ∷ d) more n is =
    (numeral_by_digits (d ++ more)).2 ∙ numeral_digit_longer d (d ++ more) (λ m. (2 * m.0, m.1 + 1)) n (numeral_longer d more) (sym (numeral_by_digits d).2 ∙ is)
numeral_longer (P ∷ d) more n is = (numeral_by_digits (d ++ more)).3 ∙ sym (numeral_by_digits d).3 ∙ is

number_longer : {Item : Type 0} (d more : List Base) (f : ℕ × ℕ → Piece Item) (p : Piece Item) → option_map f (numeral d) ≡ Some p → option_map f (numeral (d ++ more)) ≡ Some p
number_longer d more f p is =
    let found = mapped_some f (numeral d) p is in
    ap (option_map f) (numeral_longer d more found.0 found.1 ∙ sym found.1) ∙ is

digit_within : (d : List Base) (f : ℕ → ℕ) (n : ℕ × ℕ) → ((m : ℕ × ℕ) → numeral d ≡ Some m → m.1 ≤ length d)
    → option_map (λ m. (f m.0, m.1 + 1)) (numeral d) ≡ Some n → n.1 ≤ suc (length d)
digit_within d f n within is =
    let made : ℕ × ℕ → ℕ × ℕ = λ m. (f m.0, m.1 + 1) in
    let found = mapped_some made (numeral d) n is in
    let here : found.0.1 ≤ length d = within found.0 found.1 in
    let same : made found.0 ≡ n = same_Some (made found.0) n (ap (option_map made) (sym found.1) ∙ is) in
    let count : found.0.1 + 1 ≡ n.1 = ap (λ m. m.1) same in
    omega arith

numeral_within : (d : List Base) (n : ℕ × ℕ) → numeral d ≡ Some n → n.1 ≤ length d
numeral_within [] n is = absurd (none-some n (sym (numeral_by_digits []).4 ∙ is))
numeral_within (C ∷ d) n is = digit_within d (λ m. 1 + 2 * m) n (numeral_within d) (sym (numeral_by_digits d).0 ∙ is)
numeral_within (I ∷ d) n is = digit_within d (λ m. 2 * m) n (numeral_within d) (sym (numeral_by_digits d).1 ∙ is)
numeral_within (F ∷ d) n is = digit_within d (λ m. 2 * m) n (numeral_within d) (sym (numeral_by_digits d).2 ∙ is)
numeral_within (P ∷ d) n is =
    let one : (0, 1) ≡ n = same_Some (0, 1) n (sym (numeral_by_digits d).3 ∙ is) in
    let count : 1 ≡ n.1 = ap (λ m. m.1) one in omega arith

-- what is left of a DNA when it has a piece is not empty and not a lone I
record GoesOn (rest : List Base) : Type 0 where
  some : rest ≡ [] → ⊥
  more : rest ≡ I ∷ [] → ⊥

-- constants that end before the end of the DNA

consts_longer : (d more : List Base) → GoesOn (drop (length (quote (consts d))) d) → consts (d ++ more) ≡ consts d
consts_longer [] more goes = absurd (goes.some refl)
consts_longer (C ∷ d) more goes = ap (λ s. I ∷ s) (consts_longer d more goes)
consts_longer (F ∷ d) more goes = ap (λ s. C ∷ s) (consts_longer d more goes)
consts_longer (P ∷ d) more goes = ap (λ s. F ∷ s) (consts_longer d more goes)
consts_longer (I ∷ []) more goes = absurd (goes.more refl)
consts_longer (I ∷ C ∷ d) more goes = ap (λ s. P ∷ s) (consts_longer d more goes)
consts_longer (I ∷ I ∷ d) more goes = refl
consts_longer (I ∷ F ∷ d) more goes = refl
consts_longer (I ∷ P ∷ d) more goes = refl

-- commands that are not short

command_goes : (d : List Base) → GoesOn (drop (length (take 7 d)) d) → 7 ≤ length d
command_goes d goes =
    elim (cases_lt (length d) 7) [
      | inl short ↦
          let all : take 7 d ≡ d = take_all 7 d (omega arith) in
          absurd (goes.some (drop_all (length (take 7 d)) d (omega (arith, ap length all))))
      | inr long ↦ omega arith
    ]

command_longer : {Item : Type 0} (d more : List Base) → GoesOn (drop (length (take 7 d)) d) → command {Item = Item} (d ++ more) ≡ command d
command_longer d more goes =
    let long : 7 ≤ length d = command_goes d goes in
    let same : take 7 (d ++ more) ≡ take 7 d = take-append-le 7 d more long in
    ap (λ l. Some (record { takes = 3 + length l; gives = GivesCommand l })) same

-- tables

-- what a table takes stays, where it is the end or a further piece stands behind it
record KeepsPieces {Item : Type 0} (table : Table Item) : Type 0 where
  keeps : (is_open : Bool) (w more : List Base) (p : Piece Item) → table.piece_of is_open w ≡ Some p
      → (is_end p.gives ≡ true) ⊎ GoesOn (drop p.takes w) → table.piece_of is_open (w ++ more) ≡ Some p
  goes : (is_open : Bool) (w : List Base) (p : Piece Item) → table.piece_of is_open w ≡ Some p → GoesOn w

abbrev Condition : {Item : Type 0} → Piece Item → List Base → Type 0
Condition p w = (is_end p.gives ≡ true) ⊎ GoesOn (drop p.takes w)

-- the condition of a piece that is known, and that is no end
goes_of : {Item : Type 0} (q p : Piece Item) (w : List Base) → ◌≡◌ {A = Option (Piece Item)} (Some q) (Some p) → is_end q.gives ≡ false → Condition p w → GoesOn (drop q.takes w)
goes_of {Item} q p w is more (inl end) =
    let same : p ≡ q = sym (same_Some q p is) in
    let ends : is_end q.gives ≡ true = subst (λ (x : Piece Item). is_end x.gives ≡ true) same end in cc
goes_of {Item} q p w is more (inr goes) = subst (λ (x : Piece Item). GoesOn (drop x.takes w)) (sym (same_Some q p is)) goes

search_longer : (d more : List Base) (p : Piece PatItem) (is_open : Bool) → pattern_piece is_open (I ∷ F ∷ d) ≡ Some p → Condition p (I ∷ F ∷ d) → pattern_piece is_open (I ∷ F ∷ (d ++ more)) ≡ Some p
search_longer [] more p is_open is goes =
    let piece : Piece PatItem = record { takes = 2 + min 1 0 + length (quote (consts (drop 1 []))); gives = GivesItem (Search (consts (drop 1 []))) } in
    let left : GoesOn [] = goes_of piece p (I ∷ F ∷ []) is refl goes in
    absurd (left.some refl)
search_longer (b ∷ d) more p is_open is goes =
    let piece : Piece PatItem = record { takes = 2 + min 1 (length (b ∷ d)) + length (quote (consts d)); gives = GivesItem (Search (consts d)) } in
    let count : 2 + min 1 (length (b ∷ d)) + length (quote (consts d)) ≡ suc (suc (suc (length (quote (consts d))))) = omega arith in
    let left : GoesOn (drop (length (quote (consts d))) d) = subst (λ n. GoesOn (drop n (I ∷ F ∷ b ∷ d))) count (goes_of piece p (I ∷ F ∷ b ∷ d) is refl goes) in
    let same : consts (d ++ more) ≡ consts d = consts_longer d more left in
    let one : 2 + min 1 (length (b ∷ d ++ more)) ≡ 2 + min 1 (length (b ∷ d)) = omega arith in
    let made : ℕ → List Base → Option (Piece PatItem) = λ n s. Some (record { takes = n + length (quote s); gives = GivesItem (Search s) }) in
    ap (λ s. made (2 + min 1 (length (b ∷ d ++ more))) s) same ∙ ap (λ n. made n (consts d)) one ∙ is

command_kept : {Item : Type 0} (d more : List Base) (p : Piece Item) → command d ≡ Some p → Condition p (I ∷ I ∷ I ∷ d) → command (d ++ more) ≡ Some p
command_kept {Item} d more p is goes =
    let piece : Piece Item = record { takes = 3 + length (take 7 d); gives = GivesCommand (take 7 d) } in
    let count : 3 + length (take 7 d) ≡ suc (suc (suc (length (take 7 d)))) = omega arith in
    let left : GoesOn (drop (length (take 7 d)) d) = subst (λ n. GoesOn (drop n (I ∷ I ∷ I ∷ d))) count (goes_of piece p (I ∷ I ∷ I ∷ d) is refl goes) in
    command_longer d more left ∙ is

pattern_kept : (is_open : Bool) (w more : List Base) (p : Piece PatItem) → pattern_piece is_open w ≡ Some p → Condition p w → pattern_piece is_open (w ++ more) ≡ Some p
pattern_kept is_open [] more p is goes = absurd (none-some p is)
pattern_kept is_open (C ∷ d) more p is goes = is
pattern_kept is_open (F ∷ d) more p is goes = is
pattern_kept is_open (P ∷ d) more p is goes = is
pattern_kept is_open (I ∷ []) more p is goes = absurd (none-some p is)
pattern_kept is_open (I ∷ C ∷ d) more p is goes = is
pattern_kept is_open (I ∷ P ∷ d) more p is goes = number_longer d more (λ n. record { takes = 2 + n.1; gives = GivesItem (Skip n.0) }) p is
pattern_kept is_open (I ∷ F ∷ d) more p is goes = search_longer d more p is_open is goes
pattern_kept is_open (I ∷ I ∷ []) more p is goes = absurd (none-some p is)
pattern_kept is_open (I ∷ I ∷ P ∷ d) more p is goes = is
pattern_kept is_open (I ∷ I ∷ C ∷ d) more p is goes = is
pattern_kept is_open (I ∷ I ∷ F ∷ d) more p is goes = is
pattern_kept is_open (I ∷ I ∷ I ∷ d) more p is goes = command_kept d more p is goes

pattern_goes : (is_open : Bool) (w : List Base) (p : Piece PatItem) → pattern_piece is_open w ≡ Some p → GoesOn w
pattern_goes is_open [] p is = absurd (none-some p is)
pattern_goes is_open (I ∷ []) p is = absurd (none-some p is)
pattern_goes is_open (I ∷ b ∷ d) p is = record { some = λ e. cc; more = λ e. cc }
pattern_goes is_open (C ∷ d) p is = record { some = λ e. cc; more = λ e. cc }
pattern_goes is_open (F ∷ d) p is = record { some = λ e. cc; more = λ e. cc }
pattern_goes is_open (P ∷ d) p is = record { some = λ e. cc; more = λ e. cc }

pattern_keeps : KeepsPieces pattern_table
pattern_keeps = record { keeps = pattern_kept; goes = pattern_goes }

and_then_some : {A B : Type 0} (f : A → Option B) (o : Option A) (y : B) → option_and_then f o ≡ Some y → (x : A) × (o ≡ Some x) × (f x ≡ Some y)
and_then_some f None y e = absurd (none-some y e)
and_then_some f (Some x) y e = (x, refl, e)

reference_longer : (d more : List Base) (p : Piece TplItem) → reference d ≡ Some p → reference (d ++ more) ≡ Some p
reference_longer d more p is =
    let made : ℕ × ℕ → List Base → Option (Piece TplItem) = λ level rest. option_map (λ n. record { takes = 2 + level.1 + n.1; gives = GivesItem (Group n.0 level.0) }) (numeral rest) in
    let first = and_then_some (λ level. made level (drop level.1 d)) (numeral d) p is in
    let level : ℕ × ℕ = first.0 in
    let within : level.1 ≤ length d = numeral_within d level first.1 in
    let behind : drop level.1 (d ++ more) ≡ drop level.1 d ++ more = drop-append-le level.1 d more within in
    ap (option_and_then (λ l. made l (drop l.1 (d ++ more)))) (numeral_longer d more level first.1)
    ∙ ap (made level) behind
    ∙ number_longer (drop level.1 d) more (λ n. record { takes = 2 + level.1 + n.1; gives = GivesItem (Group n.0 level.0) }) p first.2

template_kept : (is_open : Bool) (w more : List Base) (p : Piece TplItem) → template_piece w ≡ Some p → Condition p w → template_piece (w ++ more) ≡ Some p
template_kept is_open [] more p is goes = absurd (none-some p is)
template_kept is_open (C ∷ d) more p is goes = is
template_kept is_open (F ∷ d) more p is goes = is
template_kept is_open (P ∷ d) more p is goes = is
template_kept is_open (I ∷ []) more p is goes = absurd (none-some p is)
template_kept is_open (I ∷ C ∷ d) more p is goes = is
template_kept is_open (I ∷ F ∷ d) more p is goes = reference_longer d more p is
template_kept is_open (I ∷ P ∷ d) more p is goes = reference_longer d more p is
template_kept is_open (I ∷ I ∷ []) more p is goes = absurd (none-some p is)
template_kept is_open (I ∷ I ∷ C ∷ d) more p is goes = is
template_kept is_open (I ∷ I ∷ F ∷ d) more p is goes = is
template_kept is_open (I ∷ I ∷ P ∷ d) more p is goes = number_longer d more (λ n. record { takes = 3 + n.1; gives = GivesItem (Len n.0) }) p is
template_kept is_open (I ∷ I ∷ I ∷ d) more p is goes = command_kept d more p is goes

template_goes : (is_open : Bool) (w : List Base) (p : Piece TplItem) → template_piece w ≡ Some p → GoesOn w
template_goes is_open [] p is = absurd (none-some p is)
template_goes is_open (I ∷ []) p is = absurd (none-some p is)
template_goes is_open (I ∷ b ∷ d) p is = record { some = λ e. cc; more = λ e. cc }
template_goes is_open (C ∷ d) p is = record { some = λ e. cc; more = λ e. cc }
template_goes is_open (F ∷ d) p is = record { some = λ e. cc; more = λ e. cc }
template_goes is_open (P ∷ d) p is = record { some = λ e. cc; more = λ e. cc }

template_keeps : KeepsPieces template_table
template_keeps = record { keeps = template_kept; goes = template_goes }

-- cuts

joined_longer : {Item : Type 0} (cuts : List (Cut Item)) (rest more : List Base) → joined cuts rest ++ more ≡ joined cuts (rest ++ more)
joined_longer [] rest more = refl
joined_longer (cut ∷ cuts) rest more = append_assoc cut.bases (joined cuts rest) more ∙ ap (λ l. cut.bases ++ l) (joined_longer cuts rest more)

module _ {Item : Type 0} (table : Table Item) (keeps : KeepsPieces table) where
  cut_longer : (groups : ℕ) (cut : Cut Item) (cuts : List (Cut Item)) (rest more : List Base) → IsCutBy table groups cut cuts rest
      → (is_end cut.gives ≡ true) ⊎ GoesOn (joined cuts rest) → IsCutBy table groups cut cuts (rest ++ more)
  cut_longer groups cut cuts rest more is goes =
      let p : Piece Item = record { takes = length cut.bases; gives = cut.gives } in
      let w : List Base = joined (cut ∷ cuts) rest in
      let condition : Condition p w = elim goes [
        | inl end ↦ inl end
        | inr on ↦ inr (subst GoesOn (sym (drop-append_seam cut.bases (joined cuts rest))) on)
      ] in
      record {
        some = is.some;
        takes = ap (table.piece_of (nat_lt 0 groups)) (sym (joined_longer (cut ∷ cuts) rest more)) ∙ keeps.keeps (nat_lt 0 groups) w more p is.takes condition;
        last = is.last;
      }

  cuts_longer : (groups : ℕ) (cuts : List (Cut Item)) (rest more : List Base) → is_ended cuts ≡ true → AreCutBy table groups cuts rest → AreCutBy table groups cuts (rest ++ more)
  cuts_longer groups [] rest more ended are = tt
  cuts_longer groups (cut ∷ []) rest more ended are = (cut_longer groups cut [] rest more are.0 (inl ended), tt)
  cuts_longer groups (cut ∷ next ∷ cuts) rest more ended are =
      let g : ℕ = open_after table groups cut.gives in
      let goes : GoesOn (joined (next ∷ cuts) rest) = keeps.goes (nat_lt 0 g) (joined (next ∷ cuts) rest) (record { takes = length next.bases; gives = next.gives }) are.1.0.takes in
      (cut_longer groups cut (next ∷ cuts) rest more are.0 (inr goes), cuts_longer g (next ∷ cuts) rest more ended are.1)

  longer : ReadsLonger table
  longer groups w more items rna rest reads =
      let cuts : List (Cut Item) = reads.0 in
      let cutting : IsCutting table groups w cuts reads.1 = reads.2 in
      let is = read_is (is_ended cuts) cuts reads.1 rest items rna reads.3 in
      let longer_cutting : IsCutting table groups (w ++ more) cuts (reads.1 ++ more) = record {
        whole = sym (joined_longer cuts reads.1 more) ∙ ap (λ l. l ++ more) cutting.whole;
        cut = cuts_longer groups cuts reads.1 more is.0 cutting.cut;
        stops = λ ended. absurd (let t : is_ended cuts ≡ true = is.0 in cc);
      } in (
        cuts,
        reads.1 ++ more,
        longer_cutting,
        ap (λ l. Read l rna (rest ++ more)) is.1 ∙ ap (λ l. Read (items_of cuts) l (rest ++ more)) is.2 ∙ ap (λ l. Read (items_of cuts) (commands_of cuts) (l ++ more)) is.3
            ∙ sym (ap (λ b. reading_of b cuts (reads.1 ++ more)) is.0),
      )

pub longer_pattern : ReadsLonger pattern_table
longer_pattern = longer pattern_table pattern_keeps

pub longer_template : ReadsLonger template_table
longer_template = longer template_table template_keeps

-- what a reading leaves is the back of the DNA
pub reading_leaves : {Item : Type 0} (table : Table Item) (groups : ℕ) (w : List Base) (items : List Item) (rna : List (List Base)) (rest : List Base)
    → ReadsFrom table groups w (Read items rna rest) → (front : List Base) × (w ≡ front ++ rest)
reading_leaves table groups w items rna rest reads =
    let is = read_is (is_ended reads.0) reads.0 reads.1 rest items rna reads.3 in
    (joined reads.0 [], sym reads.2.whole ∙ sym (joined_longer reads.0 [] reads.1) ∙ ap (λ l. joined reads.0 [] ++ l) (sym is.3))
