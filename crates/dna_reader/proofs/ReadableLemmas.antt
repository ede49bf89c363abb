-- Patterns that are read without RNA.
use Rattle.std.proofs.Common.{◌≡◌, ℕ, ◌+◌, min, Bool, true, false, Some, List, [], ◌∷◌, ◌++◌, length, take, drop, arith, refl, ap, sym, ◌∙◌, subst, length-append}
use Rattle.std.specs.Prelude.{nat_lt, ◌&&◌}
use Rattle.std.proofs.lemmas.List.{drop-drop}
use Rattle.std.proofs.lemmas.Option.{same_Some}
use Rattle.std.proofs.Math.Seq.{drop-append_seam}
use Rattle.fuun_base.specs.declared.letters.Base.{Base}
use Rattle.fuun_base.specs.declared.letters.Base.TheVariants.{I, C, F, P}
use Rattle.fuun_base.specs.Quote.{quote}
use Rattle.dna_items.specs.declared.items.PatItem.{PatItem}
use Rattle.dna_items.specs.declared.items.PatItem.TheVariants.{Base as Literal, Skip, Search, GroupStart, GroupStop}
use Rattle.dna_reader.specs.CodeLaws.{OnlyReadableIsRead}
use Rattle.dna_reader.specs.Codes.{is_search, is_base, has_search_before_base}
use Rattle.dna_reader.specs.Constants.{consts}
use Rattle.dna_reader.specs.Numeral.{numeral}
use Rattle.dna_reader.specs.Piece.{Gives, GivesItem, GivesCommand, GivesEnd, Piece, pattern_piece}
use Rattle.dna_reader.specs.Reading.{Cut, joined, open_after, EndsHere, AreCutBy, is_ended, item_of, command_of, items_of, commands_of}
use Rattle.dna_reader.specs.Tables.{pattern_table}
use Rattle.dna_reader.proofs.ConstantLemmas.{consts_begin, consts_front}
use Rattle.dna_reader.proofs.NumeralLemmas.{map_some}
use Rattle.dna_reader.proofs.ReadingLemmas.{read_is}
use Rattle.dna_reader.proofs.TableLemmas.{patterns_are_balanced}

none_left : (a b : List Base) → a ≡ a ++ b → b ≡ []
none_left a [] e = refl
none_left a (x ∷ b) e = let sizes = ap length e in absurd (omega (arith, length-append a (x ∷ b)))

-- behind the constants there are none
constants_end : (d : List Base) → consts (drop (length (quote (consts d))) d) ≡ []
constants_end d =
    let begins = consts_begin d in
    let behind : drop (length (quote (consts d))) d ≡ begins.0 = ap (λ l. drop (length (quote (consts d))) l) begins.1 ∙ drop-append_seam (quote (consts d)) begins.0 in
    ap consts behind ∙ none_left (consts d) (consts begins.0) (consts_front (consts d) d begins)

abbrev piece : ℕ → Gives PatItem → Piece PatItem
piece n gives = record { takes = n; gives = gives }

-- what a piece takes, where it gives a search
abbrev SearchEnds : List Base → Piece PatItem → Type 0
SearchEnds d p = (s : List Base) → p.gives ≡ GivesItem (Search s) → consts (drop p.takes d) ≡ []

ends : (d : List Base) (n : ℕ) (gives : Gives PatItem) (p : Piece PatItem) → Some (piece n gives) ≡ Some p → SearchEnds d (piece n gives) → SearchEnds d p
ends d n gives p e is = subst (λ q. SearchEnds d q) (same_Some (piece n gives) p e) is

search_taken : (d s : List Base) → consts (drop (2 + min 1 (length d) + length (quote (consts (drop 1 d)))) (I ∷ F ∷ d)) ≡ []
search_taken [] s = refl
search_taken (x ∷ d) s =
    let n : 2 + min 1 (length (x ∷ d)) + length (quote (consts d)) ≡ 3 + length (quote (consts d)) = omega arith in
    rw n (rw (sym (drop-drop (length (quote (consts d))) 3 (I ∷ F ∷ x ∷ d))) (constants_end d))

search_ends : (is_open : Bool) (d : List Base) (p : Piece PatItem) → pattern_piece is_open d ≡ Some p → SearchEnds d p
search_ends is_open [] p e = cc
search_ends is_open (C ∷ d) p e = ends (C ∷ d) 1 (GivesItem (Literal I)) p e (λ s h. cc)
search_ends is_open (F ∷ d) p e = ends (F ∷ d) 1 (GivesItem (Literal C)) p e (λ s h. cc)
search_ends is_open (P ∷ d) p e = ends (P ∷ d) 1 (GivesItem (Literal F)) p e (λ s h. cc)
search_ends is_open (I ∷ []) p e = cc
search_ends is_open (I ∷ C ∷ d) p e = ends (I ∷ C ∷ d) 2 (GivesItem (Literal P)) p e (λ s h. cc)
search_ends is_open (I ∷ P ∷ d) p e =
    let found = map_some (λ (n : ℕ × ℕ). piece (2 + n.1) (GivesItem (Skip n.0))) (numeral d) p e in
    subst (λ q. SearchEnds (I ∷ P ∷ d) q) found.2 (λ s h. cc)
search_ends is_open (I ∷ F ∷ d) p e =
    ends (I ∷ F ∷ d) (2 + min 1 (length d) + length (quote (consts (drop 1 d)))) (GivesItem (Search (consts (drop 1 d)))) p e (λ s h. search_taken d s)
search_ends is_open (I ∷ I ∷ []) p e = cc
search_ends is_open (I ∷ I ∷ P ∷ d) p e = ends (I ∷ I ∷ P ∷ d) 3 (GivesItem GroupStart) p e (λ s h. cc)
search_ends true (I ∷ I ∷ C ∷ d) p e = ends (I ∷ I ∷ C ∷ d) 3 (GivesItem GroupStop) p e (λ s h. cc)
search_ends false (I ∷ I ∷ C ∷ d) p e = ends (I ∷ I ∷ C ∷ d) 3 GivesEnd p e (λ s h. cc)
search_ends true (I ∷ I ∷ F ∷ d) p e = ends (I ∷ I ∷ F ∷ d) 3 (GivesItem GroupStop) p e (λ s h. cc)
search_ends false (I ∷ I ∷ F ∷ d) p e = ends (I ∷ I ∷ F ∷ d) 3 GivesEnd p e (λ s h. cc)
search_ends is_open (I ∷ I ∷ I ∷ d) p e = ends (I ∷ I ∷ I ∷ d) (3 + length (take 7 d)) (GivesCommand (take 7 d)) p e (λ s h. cc)

-- a piece that gives a base needs constants
abbrev BaseBegins : List Base → Piece PatItem → Type 0
BaseBegins d p = (b : Base) → p.gives ≡ GivesItem (Literal b) → consts d ≡ [] → ⊥

begins : (d : List Base) (n : ℕ) (gives : Gives PatItem) (p : Piece PatItem) → Some (piece n gives) ≡ Some p → BaseBegins d (piece n gives) → BaseBegins d p
begins d n gives p e is = subst (λ q. BaseBegins d q) (same_Some (piece n gives) p e) is

base_begins : (is_open : Bool) (d : List Base) (p : Piece PatItem) → pattern_piece is_open d ≡ Some p → BaseBegins d p
base_begins is_open [] p e = cc
base_begins is_open (C ∷ d) p e = begins (C ∷ d) 1 (GivesItem (Literal I)) p e (λ b h none. cc)
base_begins is_open (F ∷ d) p e = begins (F ∷ d) 1 (GivesItem (Literal C)) p e (λ b h none. cc)
base_begins is_open (P ∷ d) p e = begins (P ∷ d) 1 (GivesItem (Literal F)) p e (λ b h none. cc)
base_begins is_open (I ∷ []) p e = cc
base_begins is_open (I ∷ C ∷ d) p e = begins (I ∷ C ∷ d) 2 (GivesItem (Literal P)) p e (λ b h none. cc)
base_begins is_open (I ∷ P ∷ d) p e =
    let found = map_some (λ (n : ℕ × ℕ). piece (2 + n.1) (GivesItem (Skip n.0))) (numeral d) p e in
    subst (λ q. BaseBegins (I ∷ P ∷ d) q) found.2 (λ b h none. cc)
base_begins is_open (I ∷ F ∷ d) p e =
    begins (I ∷ F ∷ d) (2 + min 1 (length d) + length (quote (consts (drop 1 d)))) (GivesItem (Search (consts (drop 1 d)))) p e (λ b h none. cc)
base_begins is_open (I ∷ I ∷ []) p e = cc
base_begins is_open (I ∷ I ∷ P ∷ d) p e = begins (I ∷ I ∷ P ∷ d) 3 (GivesItem GroupStart) p e (λ b h none. cc)
base_begins true (I ∷ I ∷ C ∷ d) p e = begins (I ∷ I ∷ C ∷ d) 3 (GivesItem GroupStop) p e (λ b h none. cc)
base_begins false (I ∷ I ∷ C ∷ d) p e = begins (I ∷ I ∷ C ∷ d) 3 GivesEnd p e (λ b h none. cc)
base_begins true (I ∷ I ∷ F ∷ d) p e = begins (I ∷ I ∷ F ∷ d) 3 (GivesItem GroupStop) p e (λ b h none. cc)
base_begins false (I ∷ I ∷ F ∷ d) p e = begins (I ∷ I ∷ F ∷ d) 3 GivesEnd p e (λ b h none. cc)
base_begins is_open (I ∷ I ∷ I ∷ d) p e = begins (I ∷ I ∷ I ∷ d) (3 + length (take 7 d)) (GivesCommand (take 7 d)) p e (λ b h none. cc)

-- two items whose pieces stand one behind the other
neighbours : (x y : PatItem) (here there : Bool) (d : List Base) (n m : ℕ)
    → pattern_piece here d ≡ Some (piece n (GivesItem x)) → pattern_piece there (drop n d) ≡ Some (piece m (GivesItem y)) → (is_search x && is_base y) ≡ false
neighbours (Literal b) y here there d n m e f = refl
neighbours (Skip k) y here there d n m e f = refl
neighbours GroupStart y here there d n m e f = refl
neighbours GroupStop y here there d n m e f = refl
neighbours (Search s) (Literal b) here there d n m e f = absurd (base_begins there (drop n d) (piece m (GivesItem (Literal b))) f b refl (search_ends here d (piece n (GivesItem (Search s))) e s refl))
neighbours (Search s) (Skip k) here there d n m e f = refl
neighbours (Search s) (Search t) here there d n m e f = refl
neighbours (Search s) GroupStart here there d n m e f = refl
neighbours (Search s) GroupStop here there d n m e f = refl

-- what was given, and what is given next
given_apart : (gives next : Gives PatItem) (items : List PatItem) (rna : List (List Base))
    → ((x y : PatItem) → gives ≡ GivesItem x → next ≡ GivesItem y → (is_search x && is_base y) ≡ false)
    → command_of gives ++ (command_of next ++ rna) ≡ [] → (next ≡ GivesEnd → items ≡ [])
    → has_search_before_base (item_of next ++ items) ≡ false → has_search_before_base (item_of gives ++ (item_of next ++ items)) ≡ false
given_apart (GivesItem x) (GivesItem y) items rna apart quiet last further = rw (apart x y refl refl) further
given_apart (GivesItem x) (GivesCommand c) items rna apart quiet last further = cc
given_apart (GivesItem x) GivesEnd items rna apart quiet last further = rw (last refl) refl
given_apart (GivesCommand c) next items rna apart quiet last further = cc
given_apart GivesEnd next items rna apart quiet last further = further

one_apart : (gives : Gives PatItem) → has_search_before_base (item_of gives ++ []) ≡ false
one_apart (GivesItem x) = refl
one_apart (GivesCommand c) = refl
one_apart GivesEnd = refl

no_more_items : (gives : Gives PatItem) (cuts : List (Cut PatItem)) → EndsHere gives cuts → gives ≡ GivesEnd → items_of cuts ≡ []
no_more_items gives cuts last end = let none : cuts ≡ [] = subst (λ (g : Gives PatItem). EndsHere g cuts) end last in ap items_of none

quiet_behind : (gives : Gives PatItem) (rna : List (List Base)) → command_of gives ++ rna ≡ [] → rna ≡ []
quiet_behind (GivesItem x) rna e = e
quiet_behind (GivesCommand c) rna e = cc
quiet_behind GivesEnd rna e = e

cuts_apart : (groups : ℕ) (cuts : List (Cut PatItem)) (rest : List Base) → AreCutBy pattern_table groups cuts rest → commands_of cuts ≡ [] → has_search_before_base (items_of cuts) ≡ false
cuts_apart groups [] rest are quiet = refl
cuts_apart groups (cut ∷ []) rest are quiet = one_apart cut.gives
cuts_apart groups (cut ∷ next ∷ cuts) rest are quiet =
    given_apart cut.gives next.gives (items_of cuts) (commands_of cuts) apart quiet (no_more_items next.gives cuts are.1.0.last)
    (cuts_apart (open_after pattern_table groups cut.gives) (next ∷ cuts) rest are.1 (quiet_behind cut.gives (commands_of (next ∷ cuts)) quiet))
  where
    apart : (x y : PatItem) → cut.gives ≡ GivesItem x → next.gives ≡ GivesItem y → (is_search x && is_base y) ≡ false
    apart x y first second =
        let d : List Base = cut.bases ++ joined (next ∷ cuts) rest in
        let n : ℕ = length cut.bases in
        let m : ℕ = length next.bases in
        let here : pattern_piece (nat_lt 0 groups) d ≡ Some (piece n (GivesItem x)) = are.0.takes ∙ ap (λ g. Some (piece n g)) first in
        let there : pattern_piece (nat_lt 0 (open_after pattern_table groups cut.gives)) (joined (next ∷ cuts) rest) ≡ Some (piece m (GivesItem y)) =
        are.1.0.takes ∙ ap (λ g. Some (piece m g)) second in
        let behind : pattern_piece (nat_lt 0 (open_after pattern_table groups cut.gives)) (drop n d) ≡ Some (piece m (GivesItem y)) =
        ap (λ l. pattern_piece (nat_lt 0 (open_after pattern_table groups cut.gives)) l) (drop-append_seam cut.bases (joined (next ∷ cuts) rest)) ∙ there in
        neighbours x y (nat_lt 0 groups) (nat_lt 0 (open_after pattern_table groups cut.gives)) d n m here behind

pub only_readable_is_read : OnlyReadableIsRead
only_readable_is_read d items rest reads =
    let is = read_is (is_ended reads.0) reads.0 reads.1 rest items [] reads.3 in
    record {
      balanced = patterns_are_balanced d items [] rest reads;
      apart = subst (λ l. has_search_before_base l ≡ false) (sym is.1) (cuts_apart 0 reads.0 reads.1 reads.2.cut (sym is.2));
    }
