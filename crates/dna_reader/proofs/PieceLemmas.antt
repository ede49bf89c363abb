-- Pieces, by what they begin with.
use Rattle.std.proofs.Common.{◌≡◌, ℕ, ◌+◌, ◌-◌, ◌<◌, ◌≤◌, suc, min, inl, inr, Bool, true, false, Option, Some, None, List, [], ◌∷◌, ◌++◌, length, take, drop, arith, refl, ap, sym, ◌∙◌, subst, length-append, length-drop, append-nil}
use Rattle.std.specs.Option.{option_map, option_and_then}
use Rattle.std.proofs.lemmas.List.{drop-drop, append_assoc, take-append-le, drop-append-le, take-append-drop, length-take-le}
use Rattle.std.proofs.lemmas.Bool.{cases_lt}
use Rattle.std.proofs.lemmas.Option.{some_pair_parts}
use Rattle.fuun_base.specs.declared.letters.Base.{Base}
use Rattle.fuun_base.specs.declared.letters.Base.TheVariants.{I, C, F, P}
use Rattle.fuun_base.specs.Quote.{quote, quote_of}
use Rattle.dna_items.specs.declared.items.PatItem.{PatItem}
use Rattle.dna_items.specs.declared.items.PatItem.TheVariants.{Base as PatLiteral, Skip, Search, GroupStart}
use Rattle.dna_items.specs.declared.items.TplItem.{TplItem}
use Rattle.dna_items.specs.declared.items.TplItem.TheVariants.{Base as TplLiteral, Group, Len}
use Rattle.dna_items.specs.Held.{held, held_pattern_item, held_template_item}
use Rattle.std.specs.Prelude.{position}
use Rattle.dna_reader.specs.Numeral.{is_p, value_from, numeral}
use Rattle.dna_reader.proofs.NumeralLemmas.{HasNoP, numeral_at, position_in_front, position_within}
use Rattle.dna_reader.specs.Constants.{consts}
use Rattle.dna_reader.specs.Piece.{Gives, GivesItem, GivesCommand, GivesEnd, Piece, item, command, group_end, pattern_piece, reference, template_piece}
use Rattle.dna_reader.specs.Taking.{IsNumeralAt}
use Rattle.dna_reader.specs.View.{View}
use Rattle.dna_reader.specs.Window.{Shows}
use Rattle.dna_reader.specs.Heads.{unquoted, head_of}
use Rattle.dna_reader.specs.Given.{end_gives, held_gives, PieceIsRead}
use Rattle.dna_reader.specs.declared.heads.Head.{Head}
use Rattle.dna_reader.specs.declared.heads.Head.TheVariants.{Literal, Ip, If, Iip, Iic, Iii, Short}

-- the piece of a pattern, by what it begins with
abbrev pub pattern_by : Bool → Head → List Base → Option (Piece PatItem)
pattern_by is_open (Literal b n) d = item n (PatLiteral b)
pattern_by is_open Ip d = option_map (λ n. record { takes = 2 + n.1; gives = GivesItem (Skip n.0) }) (numeral (drop 2 d))
pattern_by is_open If d = item (2 + min 1 (length (drop 2 d)) + length (quote (consts (drop 1 (drop 2 d))))) (Search (consts (drop 1 (drop 2 d))))
pattern_by is_open Iip d = item 3 GroupStart
pattern_by is_open Iic d = group_end is_open
pattern_by is_open Iii d = command (drop 3 d)
pattern_by is_open Short d = None

pub pattern_is : (is_open : Bool) (d : List Base) → pattern_piece is_open d ≡ pattern_by is_open (head_of d) d
pattern_is is_open [] = refl
pattern_is is_open (C ∷ d) = refl
pattern_is is_open (F ∷ d) = refl
pattern_is is_open (P ∷ d) = refl
pattern_is is_open (I ∷ []) = refl
pattern_is is_open (I ∷ C ∷ d) = refl
pattern_is is_open (I ∷ P ∷ d) = refl
pattern_is is_open (I ∷ F ∷ d) = refl
pattern_is is_open (I ∷ I ∷ []) = refl
pattern_is is_open (I ∷ I ∷ P ∷ d) = refl
pattern_is is_open (I ∷ I ∷ C ∷ d) = refl
pattern_is is_open (I ∷ I ∷ F ∷ d) = refl
pattern_is is_open (I ∷ I ∷ I ∷ d) = refl

pub pattern_at : (is_open : Bool) (d : List Base) (h : Head) → head_of d ≡ h → pattern_piece is_open d ≡ pattern_by is_open h d
pattern_at is_open d h e = pattern_is is_open d ∙ ap (λ k. pattern_by is_open k d) e

-- the piece of a template, by what it begins with
abbrev pub template_by : Head → List Base → Option (Piece TplItem)
template_by (Literal b n) d = item n (TplLiteral b)
template_by Ip d = reference (drop 2 d)
template_by If d = reference (drop 2 d)
template_by Iip d = option_map (λ n. record { takes = 3 + n.1; gives = GivesItem (Len n.0) }) (numeral (drop 3 d))
template_by Iic d = Some (record { takes = 3; gives = GivesEnd })
template_by Iii d = command (drop 3 d)
template_by Short d = None

pub template_is : (d : List Base) → template_piece d ≡ template_by (head_of d) d
template_is [] = refl
template_is (C ∷ d) = refl
template_is (F ∷ d) = refl
template_is (P ∷ d) = refl
template_is (I ∷ []) = refl
template_is (I ∷ C ∷ d) = refl
template_is (I ∷ P ∷ d) = refl
template_is (I ∷ F ∷ d) = refl
template_is (I ∷ I ∷ []) = refl
template_is (I ∷ I ∷ P ∷ d) = refl
template_is (I ∷ I ∷ C ∷ d) = refl
template_is (I ∷ I ∷ F ∷ d) = refl
template_is (I ∷ I ∷ I ∷ d) = refl

pub template_at : (d : List Base) (h : Head) → head_of d ≡ h → template_piece d ≡ template_by h d
template_at d h e = template_is d ∙ ap (λ k. template_by k d) e

-- a piece of so many bases was read
pub piece_read : {Item : Type 0} (piece_of : List Base → Option (Piece Item)) (held : Item → Item) (d : List Base) (place next n : ℕ) (gives given : Gives Item)
    → piece_of (drop place d) ≡ Some (record { takes = n; gives = gives }) → given ≡ held_gives held gives → next ≡ place + n
    → PieceIsRead piece_of held d place given next
piece_read piece_of held d place next n gives given is same behind = record { piece = record { takes = n; gives = gives }; is = is; gives = same; behind = behind }

-- IIC and IIF
pub group_end_is : (is_open : Bool) → group_end is_open ≡ Some (record { takes = 3; gives = end_gives is_open })
group_end_is true = refl
group_end_is false = refl

pub end_held : (is_open : Bool) → end_gives is_open ≡ held_gives held_pattern_item (end_gives is_open)
end_held true = refl
end_held false = refl

-- a numeral behind some letters
pub numeral_behind_letters : (d : List Base) (place letters at value next : ℕ) → at ≡ place + letters → (is : IsNumeralAt d at value next)
    → numeral (drop letters (drop place d)) ≡ Some (is.number, is.takes)
numeral_behind_letters d place letters at value next e is =
    ap numeral (drop-drop letters place d ∙ ap (λ n. drop n d) (sym e)) ∙ is.is

pub skip_read : (is_open : Bool) (d : List Base) (place at value next : ℕ) → head_of (drop place d) ≡ Ip → at ≡ place + 2 → IsNumeralAt d at value next
    → PieceIsRead (pattern_piece is_open) held_pattern_item d place (GivesItem (Skip value)) next
skip_read is_open d place at value next head e is =
    let here : option_map (λ (n : ℕ × ℕ). let p : Piece PatItem = record { takes = 2 + n.1; gives = GivesItem (Skip n.0) } in p) (numeral (drop 2 (drop place d))) ≡ Some (record { takes = 2 + is.takes; gives = GivesItem (Skip is.number) }) =
    ap (λ o. option_map (λ (n : ℕ × ℕ). let p : Piece PatItem = record { takes = 2 + n.1; gives = GivesItem (Skip n.0) } in p) o) (numeral_behind_letters d place 2 at value next e is) in
    piece_read (pattern_piece is_open) held_pattern_item d place next (2 + is.takes) (GivesItem (Skip is.number)) (GivesItem (Skip value))
    (pattern_at is_open (drop place d) Ip head ∙ here) (ap (λ n. GivesItem (Skip n)) is.held) (is.behind ∙ omega arith)

pub length_read : (d : List Base) (place at value next : ℕ) → head_of (drop place d) ≡ Iip → at ≡ place + 3 → IsNumeralAt d at value next
    → PieceIsRead template_piece held_template_item d place (GivesItem (Len value)) next
length_read d place at value next head e is =
    let here : option_map (λ (n : ℕ × ℕ). let p : Piece TplItem = record { takes = 3 + n.1; gives = GivesItem (Len n.0) } in p) (numeral (drop 3 (drop place d))) ≡ Some (record { takes = 3 + is.takes; gives = GivesItem (Len is.number) }) =
    ap (λ o. option_map (λ (n : ℕ × ℕ). let p : Piece TplItem = record { takes = 3 + n.1; gives = GivesItem (Len n.0) } in p) o) (numeral_behind_letters d place 3 at value next e is) in
    piece_read template_piece held_template_item d place next (3 + is.takes) (GivesItem (Len is.number)) (GivesItem (Len value))
    (template_at (drop place d) Iip head ∙ here) (ap (λ n. GivesItem (Len n)) is.held) (is.behind ∙ omega arith)

abbrev grouped : ℕ × ℕ → ℕ × ℕ → Piece TplItem
grouped level n = record { takes = 2 + level.1 + n.1; gives = GivesItem (Group n.0 level.0) }

pub reference_read : (d : List Base) (place at level middle n next : ℕ) → template_piece (drop place d) ≡ reference (drop 2 (drop place d)) → at ≡ place + 2
    → IsNumeralAt d at level middle → IsNumeralAt d middle n next
    → PieceIsRead template_piece held_template_item d place (GivesItem (Group n level)) next
reference_read d place at level middle n next head e first second =
    let start : drop 2 (drop place d) ≡ drop at d = drop-drop 2 place d ∙ ap (λ m. drop m d) (sym e) in
    let between : numeral (drop first.takes (drop 2 (drop place d))) ≡ Some (second.number, second.takes) =
    ap (λ l. numeral (drop first.takes l)) start ∙ numeral_behind_letters d at first.takes middle n next first.behind second in
    let outer : numeral (drop 2 (drop place d)) ≡ Some (first.number, first.takes) = ap numeral start ∙ first.is in
    let here : reference (drop 2 (drop place d)) ≡ Some (grouped (first.number, first.takes) (second.number, second.takes)) =
    ap (λ o. option_and_then (λ level. option_map (grouped level) (numeral (drop level.1 (drop 2 (drop place d))))) o) outer
    ∙ ap (λ o. option_map (grouped (first.number, first.takes)) o) between in
    piece_read template_piece held_template_item d place next (2 + first.takes + second.takes) (GivesItem (Group second.number first.number)) (GivesItem (Group n level))
    (head ∙ here) (ap (λ m. GivesItem (Group m level)) second.held ∙ ap (λ m. GivesItem (Group (held second.number) m)) first.held) (second.behind ∙ ap (λ m. m + second.takes) first.behind ∙ omega arith)

two_letters : (d : List Base) → head_of d ≡ If → 2 ≤ length d
two_letters [] e = cc
two_letters (C ∷ d) e = cc
two_letters (F ∷ d) e = cc
two_letters (P ∷ d) e = cc
two_letters (I ∷ []) e = cc
two_letters (I ∷ C ∷ d) e = cc
two_letters (I ∷ P ∷ d) e = cc
two_letters (I ∷ F ∷ d) e = omega arith
two_letters (I ∷ I ∷ []) e = cc
two_letters (I ∷ I ∷ P ∷ d) e = cc
two_letters (I ∷ I ∷ C ∷ d) e = cc
two_letters (I ∷ I ∷ F ∷ d) e = cc
two_letters (I ∷ I ∷ I ∷ d) e = cc

one_if_there : (d : List Base) → drop (min 1 (length d)) d ≡ drop 1 d
one_if_there [] = refl
one_if_there (b ∷ d) = let one : min 1 (suc (length d)) ≡ 1 = omega arith in ap (λ n. drop n (b ∷ d)) one

-- the search: IF, one base more where it is there, and constants
pub search_read : (is_open : Bool) (d : List Base) (w v : View) (next : ℕ) (constants : List Base) → head_of (drop w.place d) ≡ If
    → Shows w d → min 10 (length (drop w.place d)) ≤ length w.ahead
    → v.place ≡ w.place + min (length w.ahead) 3 → constants ≡ consts (drop v.place d) → next ≡ v.place + length (quote constants)
    → PieceIsRead (pattern_piece is_open) held_pattern_item d w.place (GivesItem (Search constants)) next
search_read is_open d w v next constants head shows enough place same behind =
    let start : List Base = drop 2 (drop w.place d) in
    let whole = ap length shows.ahead in
    let two : 2 ≤ length (drop w.place d) = two_letters (drop w.place d) head in
    let count : min (length w.ahead) 3 ≡ 2 + min 1 (length start) =
    omega (arith, length-append w.ahead (drop (w.place + length w.ahead) d), length-drop 2 (drop w.place d)) in
    let at : v.place ≡ w.place + 2 + min 1 (length start) = place ∙ ap (λ n. w.place + n) count ∙ omega arith in
    let front : drop v.place d ≡ drop 1 start =
    ap (λ n. drop n d) at ∙ sym (drop-drop (min 1 (length start)) (w.place + 2) d) ∙ ap (λ l. drop (min 1 (length start)) l) (sym (drop-drop 2 w.place d)) ∙ one_if_there start in
    let read : constants ≡ consts (drop 1 start) = same ∙ ap consts front in
    piece_read (pattern_piece is_open) held_pattern_item d w.place next (2 + min 1 (length start) + length (quote (consts (drop 1 start)))) (GivesItem (Search (consts (drop 1 start)))) (GivesItem (Search constants))
    (pattern_at is_open (drop w.place d) If head) (ap (λ l. GivesItem (Search l)) read)
    (behind ∙ ap (λ l. v.place + length (quote l)) read ∙ ap (λ n. n + length (quote (consts (drop 1 start)))) at ∙ omega arith)

-- a command's bases are those behind III
front_of_more : (n : ℕ) (a rest : List Base) → min n (length (a ++ rest)) ≤ length a → take n (a ++ rest) ≡ take n a
front_of_more n a rest enough =
    elim (cases_lt (length a) n) [
      | inl few ↦
          let none : rest ≡ [] = no_more rest (omega (arith, length-append a rest)) in
          ap (λ l. take n (a ++ l)) none ∙ ap (λ l. take n l) (append-nil a)
      | inr many ↦ take-append-le n a rest many
    ] where
      no_more : (rest : List Base) → length rest ≤ 0 → rest ≡ []
      no_more [] h = refl
      no_more (b ∷ rest) h = absurd (omega arith)

pub command_bases : (w : View) (d : List Base) → Shows w d → 3 ≤ length w.ahead → min 10 (length (drop w.place d)) ≤ length w.ahead → take 7 (drop 3 w.ahead) ≡ take 7 (drop 3 (drop w.place d))
command_bases w d shows three enough =
    let rest : List Base = drop (w.place + length w.ahead) d in
    let whole = ap length shows.ahead in
    let split : drop 3 (drop w.place d) ≡ drop 3 w.ahead ++ rest = ap (λ l. drop 3 l) shows.ahead ∙ drop-append-le 3 w.ahead rest three in
    sym (ap (λ l. take 7 l) split ∙ front_of_more 7 (drop 3 w.ahead) rest (omega (arith, length-append w.ahead rest, length-append (drop 3 w.ahead) rest, length-drop 3 w.ahead)))

pub pattern_command_read : (is_open : Bool) (d : List Base) (w : View) (place next : ℕ) (bases : List Base) → head_of (drop place d) ≡ Iii
    → Shows w d → w.place ≡ place → 3 ≤ length w.ahead → min 10 (length (drop place d)) ≤ length w.ahead
    → bases ≡ take 7 (drop 3 w.ahead) → next ≡ w.place + (3 + length bases)
    → PieceIsRead (pattern_piece is_open) held_pattern_item d place (GivesCommand bases) next
pattern_command_read is_open d w place next bases head shows at three enough same behind =
    let more : min 10 (length (drop w.place d)) ≤ length w.ahead = subst (λ n. min 10 (length (drop n d)) ≤ length w.ahead) (sym at) enough in
    let read : bases ≡ take 7 (drop 3 (drop place d)) = same ∙ command_bases w d shows three more ∙ ap (λ n. take 7 (drop 3 (drop n d))) at in
    piece_read (pattern_piece is_open) held_pattern_item d place next (3 + length (take 7 (drop 3 (drop place d)))) (GivesCommand (take 7 (drop 3 (drop place d)))) (GivesCommand bases)
    (pattern_at is_open (drop place d) Iii head) (ap (λ l. GivesCommand l) read) (behind ∙ ap (λ n. n + (3 + length bases)) at ∙ ap (λ l. place + (3 + length l)) read)

pub template_command_read : (d : List Base) (w : View) (place next : ℕ) (bases : List Base) → head_of (drop place d) ≡ Iii
    → Shows w d → w.place ≡ place → 3 ≤ length w.ahead → min 10 (length (drop place d)) ≤ length w.ahead
    → bases ≡ take 7 (drop 3 w.ahead) → next ≡ w.place + (3 + length bases)
    → PieceIsRead template_piece held_template_item d place (GivesCommand bases) next
template_command_read d w place next bases head shows at three enough same behind =
    let more : min 10 (length (drop w.place d)) ≤ length w.ahead = subst (λ n. min 10 (length (drop n d)) ≤ length w.ahead) (sym at) enough in
    let read : bases ≡ take 7 (drop 3 (drop place d)) = same ∙ command_bases w d shows three more ∙ ap (λ n. take 7 (drop 3 (drop n d))) at in
    piece_read template_piece held_template_item d place next (3 + length (take 7 (drop 3 (drop place d)))) (GivesCommand (take 7 (drop 3 (drop place d)))) (GivesCommand bases)
    (template_at (drop place d) Iii head) (ap (λ l. GivesCommand l) read) (behind ∙ ap (λ n. n + (3 + length bases)) at ∙ ap (λ l. place + (3 + length l)) read)

-- one more base of constants
pub constant_more : (d a rest : List Base) (b : Base) (letters : ℕ) → d ≡ a ++ rest → unquoted a ≡ Some (b, letters)
    → (consts d ≡ b ∷ consts (drop letters d)) × (letters ≡ length (quote_of b)) × (letters ≤ length a)
constant_more d a rest b letters e is = subst (λ l. (consts l ≡ b ∷ consts (drop letters l)) × (letters ≡ length (quote_of b)) × (letters ≤ length a)) (sym e) (by a rest b letters is) where
  parts : (a rest : List Base) (x : Base) (n : ℕ) (b : Base) (letters : ℕ) → ◌≡◌ {A = Option (Base × ℕ)} (Some (x, n)) (Some (b, letters))
      → consts (a ++ rest) ≡ x ∷ consts (drop n (a ++ rest)) → n ≡ length (quote_of x) → n ≤ length a
      → (consts (a ++ rest) ≡ b ∷ consts (drop letters (a ++ rest))) × (letters ≡ length (quote_of b)) × (letters ≤ length a)
  parts a rest x n b letters is here count within =
      let same = some_pair_parts x b n letters is in
      subst (λ y. (consts (a ++ rest) ≡ y ∷ consts (drop letters (a ++ rest))) × (letters ≡ length (quote_of y)) × (letters ≤ length a)) same.0
      (subst (λ m. (consts (a ++ rest) ≡ x ∷ consts (drop m (a ++ rest))) × (m ≡ length (quote_of x)) × (m ≤ length a)) same.1 (here, count, within))

  by : (a rest : List Base) (b : Base) (letters : ℕ) → unquoted a ≡ Some (b, letters)
      → (consts (a ++ rest) ≡ b ∷ consts (drop letters (a ++ rest))) × (letters ≡ length (quote_of b)) × (letters ≤ length a)
  by [] rest b letters is = cc
  by (C ∷ a) rest b letters is = parts (C ∷ a) rest I 1 b letters is refl refl (omega arith)
  by (F ∷ a) rest b letters is = parts (F ∷ a) rest C 1 b letters is refl refl (omega arith)
  by (P ∷ a) rest b letters is = parts (P ∷ a) rest F 1 b letters is refl refl (omega arith)
  by (I ∷ []) rest b letters is = cc
  by (I ∷ C ∷ a) rest b letters is = parts (I ∷ C ∷ a) rest P 2 b letters is refl refl (omega arith)
  by (I ∷ I ∷ a) rest b letters is = cc
  by (I ∷ F ∷ a) rest b letters is = cc
  by (I ∷ P ∷ a) rest b letters is = cc

quote_one_more : (s : List Base) (b : Base) → length (quote (s ++ b ∷ [])) ≡ length (quote s) + length (quote_of b)
quote_one_more [] b = omega (arith, length-append (quote_of b) [])
quote_one_more (x ∷ s) b =
    omega (arith, length-append (quote_of x) (quote (s ++ b ∷ [])), length-append (quote_of x) (quote s), quote_one_more s b)

-- a step of the loop over constants
pub constants_step : (d : List Base) (start place next letters : ℕ) (constants longer ahead rest : List Base) (b : Base)
    → drop place d ≡ ahead ++ rest → unquoted ahead ≡ Some (b, letters) → longer ≡ constants ++ b ∷ [] → next ≡ place + letters
    → consts (drop start d) ≡ constants ++ consts (drop place d) → place ≡ start + length (quote constants)
    → (consts (drop start d) ≡ longer ++ consts (drop next d)) × (next ≡ start + length (quote longer))
constants_step d start place next letters constants longer ahead rest b split is long behind before at =
    let more = constant_more (drop place d) ahead rest b letters split is in
    let left : drop letters (drop place d) ≡ drop next d = drop-drop letters place d ∙ ap (λ n. drop n d) (sym behind) in (
      before ∙ ap (λ l. constants ++ l) (more.0 ∙ ap (λ l. b ∷ consts l) left) ∙ sym (append_assoc constants (b ∷ []) (consts (drop next d))) ∙ ap (λ l. l ++ consts (drop next d)) (sym long),
      rw long (rw (quote_one_more constants b) (omega (arith, more.1))),
    )

-- a numeral whose P is ahead
pub numeral_found : (d : List Base) (start next end value : ℕ) (w : View) (read : List Base) → Shows w d → start ≤ w.place
    → HasNoP (take (w.place - start) (drop start d)) → position is_p w.ahead ≡ Some end → read ≡ take (w.place - start) (drop start d) ++ take end w.ahead
    → value ≡ held (value_from 0 read) → next ≡ w.place + (end + 1) → IsNumeralAt d start value next
numeral_found d start next end value w read shows order no_p found same is behind =
    let front : List Base = take (w.place - start) (drop start d) in
    let rest : List Base = drop (w.place + length w.ahead) d in
    let within : end < length w.ahead = position_within w.ahead end found in
    let at : length front ≡ w.place - start = length-take-le (w.place - start) (drop start d) (omega (arith, length-drop start d, shows.within)) in
    let place : start + (w.place - start) ≡ w.place = omega arith in
    let all : drop start d ≡ front ++ (w.ahead ++ rest) =
    sym (take-append-drop (w.place - start) (drop start d)) ∙ ap (λ l. front ++ l) (drop-drop (w.place - start) start d ∙ ap (λ n. drop n d) place ∙ shows.ahead) in
    let digits : front ++ take end (w.ahead ++ rest) ≡ read = ap (λ l. front ++ l) (take-append-le end w.ahead rest (omega arith)) ∙ sym same in
    let pair : List Base → Option (ℕ × ℕ) = λ l. Some (value_from 0 l, length front + end + 1) in
    record {
      number = value_from 0 read;
      takes = length front + end + 1;
      is = ap numeral all ∙ numeral_at front (w.ahead ++ rest) end no_p (position_in_front w.ahead rest end found) ∙ ap pair digits;
      held = is;
      behind = behind ∙ omega arith;
      within = omega (arith, shows.within);
    }
