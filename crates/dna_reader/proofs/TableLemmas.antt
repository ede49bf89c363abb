-- The two tables of pieces.
use Rattle.std.proofs.Common.{◌≡◌, ℕ, zero, suc, ◌+◌, ◌<◌, ◌≤◌, min, inl, inr, Bool, true, false, Option, Some, None, List, [], ◌∷◌, ◌++◌, length, take, drop, arith, refl, sym, ◌∙◌, subst, length-append, length-take, length-drop}
use Rattle.std.specs.Prelude.{nat_lt}
use Rattle.std.specs.Option.{option_map, option_and_then}
use Rattle.std.proofs.lemmas.Option.{same_Some}
use Rattle.std.proofs.lemmas.Bool.{ltb-true, ltb-false}
use Rattle.fuun_base.specs.declared.letters.Base.{Base}
use Rattle.fuun_base.specs.declared.letters.Base.TheVariants.{I, C, F, P}
use Rattle.fuun_base.specs.Quote.{quote}
use Rattle.dna_items.specs.declared.items.PatItem.{PatItem}
use Rattle.dna_items.specs.declared.items.PatItem.TheVariants.{Base as Literal, Skip, Search, GroupStart, GroupStop}
use Rattle.dna_items.specs.declared.items.TplItem.{TplItem}
use Rattle.dna_items.specs.declared.items.TplItem.TheVariants.{Base as TplLiteral, Group, Len}
use Rattle.dna_items.specs.Balance.{stop_of, starts, stops, IsBalanced}
use Rattle.dna_reader.specs.Numeral.{numeral}
use Rattle.dna_reader.specs.Constants.{consts}
use Rattle.dna_reader.specs.Piece.{Gives, GivesItem, GivesCommand, GivesEnd, Piece, pattern_piece, template_piece, reference}
use Rattle.dna_reader.specs.Reading.{Cut, joined, open_after, EndsHere, is_ended, AreCutBy, item_of, items_of}
use Rattle.dna_reader.specs.Tables.{pattern_table, template_table}
use Rattle.dna_reader.specs.ReadingLaws.{TakesWhatIsThere, PatternsAreBalanced}
use Rattle.dna_reader.proofs.NumeralLemmas.{map_some, numeral_within}
use Rattle.dna_reader.proofs.ConstantLemmas.{constants_within}
use Rattle.dna_reader.proofs.ReadingLemmas.{read_is, end_cases, is_ended_behind}

-- a piece takes so many bases of those that are there
abbrev Fits : {Item : Type 0} → List Base → Piece Item → Type 0
Fits d p = (0 < p.takes) × (p.takes ≤ length d)

fits : {Item : Type 0} (d : List Base) (n : ℕ) (gives : Gives Item) (p : Piece Item) → Some (record { takes = n; gives = gives }) ≡ Some p → 0 < n → n ≤ length d → Fits d p
fits d n gives p e some there = subst (λ (q : Piece _). Fits d q) (same_Some (record { takes = n; gives = gives }) p e) (some, there)

number_fits : {Item : Type 0} (front d : List Base) (make : ℕ → Item) (p : Piece Item) → 0 < length front
    → option_map (λ n. record { takes = length front + n.1; gives = GivesItem (make n.0) }) (numeral d) ≡ Some p → Fits (front ++ d) p
number_fits {Item} front d make p some e =
    let found = map_some (λ (n : ℕ × ℕ). let piece : Piece Item = record { takes = length front + n.1; gives = GivesItem (make n.0) } in piece) (numeral d) p e in
    let there = numeral_within d found.0 found.1 in
    subst (λ (q : Piece Item). Fits (front ++ d) q) found.2 (omega arith, omega (arith, length-append front d))

command_fits : {Item : Type 0} (front d : List Base) (p : Piece Item) → length front ≡ 3
    → Some (record { takes = 3 + length (take 7 d); gives = GivesCommand (take 7 d) }) ≡ Some p → Fits (front ++ d) p
command_fits front d p three e = fits (front ++ d) (3 + length (take 7 d)) (GivesCommand (take 7 d)) p e (omega arith) (omega (arith, length-append front d, length-take 7 d))

pattern_takes : (is_open : Bool) (d : List Base) (p : Piece PatItem) → pattern_piece is_open d ≡ Some p → Fits d p
pattern_takes is_open [] p e = cc
pattern_takes is_open (C ∷ d) p e = fits (C ∷ d) 1 (GivesItem (Literal I)) p e (omega arith) (omega arith)
pattern_takes is_open (F ∷ d) p e = fits (F ∷ d) 1 (GivesItem (Literal C)) p e (omega arith) (omega arith)
pattern_takes is_open (P ∷ d) p e = fits (P ∷ d) 1 (GivesItem (Literal F)) p e (omega arith) (omega arith)
pattern_takes is_open (I ∷ []) p e = cc
pattern_takes is_open (I ∷ C ∷ d) p e = fits (I ∷ C ∷ d) 2 (GivesItem (Literal P)) p e (omega arith) (omega arith)
pattern_takes is_open (I ∷ P ∷ d) p e = number_fits (I ∷ P ∷ []) d Skip p (omega arith) e
pattern_takes is_open (I ∷ F ∷ d) p e =
    fits (I ∷ F ∷ d) (2 + min 1 (length d) + length (quote (consts (drop 1 d)))) (GivesItem (Search (consts (drop 1 d)))) p e (omega arith)
    (omega (arith, constants_within (drop 1 d), length-drop 1 d))
pattern_takes is_open (I ∷ I ∷ []) p e = cc
pattern_takes is_open (I ∷ I ∷ P ∷ d) p e = fits (I ∷ I ∷ P ∷ d) 3 (GivesItem GroupStart) p e (omega arith) (omega arith)
pattern_takes true (I ∷ I ∷ C ∷ d) p e = fits (I ∷ I ∷ C ∷ d) 3 (GivesItem GroupStop) p e (omega arith) (omega arith)
pattern_takes false (I ∷ I ∷ C ∷ d) p e = fits (I ∷ I ∷ C ∷ d) 3 GivesEnd p e (omega arith) (omega arith)
pattern_takes true (I ∷ I ∷ F ∷ d) p e = fits (I ∷ I ∷ F ∷ d) 3 (GivesItem GroupStop) p e (omega arith) (omega arith)
pattern_takes false (I ∷ I ∷ F ∷ d) p e = fits (I ∷ I ∷ F ∷ d) 3 GivesEnd p e (omega arith) (omega arith)
pattern_takes is_open (I ∷ I ∷ I ∷ d) p e = command_fits (I ∷ I ∷ I ∷ []) d p refl e

pub pattern_fits : TakesWhatIsThere pattern_table
pattern_fits = record { takes = pattern_takes }

and_then_some : {A B : Type 0} (f : A → Option B) (o : Option A) (y : B) → option_and_then f o ≡ Some y → (x : A) × (o ≡ Some x) × (f x ≡ Some y)
and_then_some f None y e = cc
and_then_some f (Some x) y e = (x, refl, e)

-- the piece of two numerals
abbrev group_piece : ℕ × ℕ → ℕ × ℕ → Piece TplItem
group_piece level n = record { takes = 2 + level.1 + n.1; gives = GivesItem (Group n.0 level.0) }

reference_fits : (b : Base) (d : List Base) (p : Piece TplItem) → reference d ≡ Some p → Fits (I ∷ b ∷ d) p
reference_fits b d p e =
    let level = and_then_some (λ (level : ℕ × ℕ). option_map (group_piece level) (numeral (drop level.1 d))) (numeral d) p e in
    let n = map_some (group_piece level.0) (numeral (drop level.0.1 d)) p level.2 in
    let first = numeral_within d level.0 level.1 in
    let second = numeral_within (drop level.0.1 d) n.0 n.1 in
    subst (λ (q : Piece TplItem). Fits (I ∷ b ∷ d) q) n.2 (omega arith, omega (arith, length-drop level.0.1 d))

template_takes : (is_open : Bool) (d : List Base) (p : Piece TplItem) → template_piece d ≡ Some p → Fits d p
template_takes is_open [] p e = cc
template_takes is_open (C ∷ d) p e = fits (C ∷ d) 1 (GivesItem (TplLiteral I)) p e (omega arith) (omega arith)
template_takes is_open (F ∷ d) p e = fits (F ∷ d) 1 (GivesItem (TplLiteral C)) p e (omega arith) (omega arith)
template_takes is_open (P ∷ d) p e = fits (P ∷ d) 1 (GivesItem (TplLiteral F)) p e (omega arith) (omega arith)
template_takes is_open (I ∷ []) p e = cc
template_takes is_open (I ∷ C ∷ d) p e = fits (I ∷ C ∷ d) 2 (GivesItem (TplLiteral P)) p e (omega arith) (omega arith)
template_takes is_open (I ∷ F ∷ d) p e = reference_fits F d p e
template_takes is_open (I ∷ P ∷ d) p e = reference_fits P d p e
template_takes is_open (I ∷ I ∷ []) p e = cc
template_takes is_open (I ∷ I ∷ C ∷ d) p e = fits (I ∷ I ∷ C ∷ d) 3 GivesEnd p e (omega arith) (omega arith)
template_takes is_open (I ∷ I ∷ F ∷ d) p e = fits (I ∷ I ∷ F ∷ d) 3 GivesEnd p e (omega arith) (omega arith)
template_takes is_open (I ∷ I ∷ P ∷ d) p e = number_fits (I ∷ I ∷ P ∷ []) d Len p (omega arith) e
template_takes is_open (I ∷ I ∷ I ∷ d) p e = command_fits (I ∷ I ∷ I ∷ []) d p refl e

pub template_fits : TakesWhatIsThere template_table
template_fits = record { takes = template_takes }

-- a group's end is given only where a group is open, and the end only where none is
abbrev MindsGroups : Bool → Piece PatItem → Type 0
MindsGroups is_open p = (p.gives ≡ GivesItem GroupStop → is_open ≡ true) × (p.gives ≡ GivesEnd → is_open ≡ false)

minds : (is_open : Bool) (n : ℕ) (gives : Gives PatItem) (p : Piece PatItem) → Some (record { takes = n; gives = gives }) ≡ Some p
    → (gives ≡ GivesItem GroupStop → is_open ≡ true) → (gives ≡ GivesEnd → is_open ≡ false) → MindsGroups is_open p
minds is_open n gives p e stop end = subst (λ (q : Piece PatItem). MindsGroups is_open q) (same_Some (record { takes = n; gives = gives }) p e) (stop, end)

minds_groups : (is_open : Bool) (d : List Base) (p : Piece PatItem) → pattern_piece is_open d ≡ Some p → MindsGroups is_open p
minds_groups is_open [] p e = cc
minds_groups is_open (C ∷ d) p e = minds is_open 1 (GivesItem (Literal I)) p e (λ h. cc) (λ h. cc)
minds_groups is_open (F ∷ d) p e = minds is_open 1 (GivesItem (Literal C)) p e (λ h. cc) (λ h. cc)
minds_groups is_open (P ∷ d) p e = minds is_open 1 (GivesItem (Literal F)) p e (λ h. cc) (λ h. cc)
minds_groups is_open (I ∷ []) p e = cc
minds_groups is_open (I ∷ C ∷ d) p e = minds is_open 2 (GivesItem (Literal P)) p e (λ h. cc) (λ h. cc)
minds_groups is_open (I ∷ P ∷ d) p e =
    let found = map_some (λ (n : ℕ × ℕ). let piece : Piece PatItem = record { takes = 2 + n.1; gives = GivesItem (Skip n.0) } in piece) (numeral d) p e in
    subst (λ (q : Piece PatItem). MindsGroups is_open q) found.2 (λ h. cc, λ h. cc)
minds_groups is_open (I ∷ F ∷ d) p e =
    minds is_open (2 + min 1 (length d) + length (quote (consts (drop 1 d)))) (GivesItem (Search (consts (drop 1 d)))) p e (λ h. cc) (λ h. cc)
minds_groups is_open (I ∷ I ∷ []) p e = cc
minds_groups is_open (I ∷ I ∷ P ∷ d) p e = minds is_open 3 (GivesItem GroupStart) p e (λ h. cc) (λ h. cc)
minds_groups true (I ∷ I ∷ C ∷ d) p e = minds true 3 (GivesItem GroupStop) p e (λ h. refl) (λ h. cc)
minds_groups false (I ∷ I ∷ C ∷ d) p e = minds false 3 GivesEnd p e (λ h. cc) (λ h. refl)
minds_groups true (I ∷ I ∷ F ∷ d) p e = minds true 3 (GivesItem GroupStop) p e (λ h. refl) (λ h. cc)
minds_groups false (I ∷ I ∷ F ∷ d) p e = minds false 3 GivesEnd p e (λ h. cc) (λ h. refl)
minds_groups is_open (I ∷ I ∷ I ∷ d) p e = minds is_open (3 + length (take 7 d)) (GivesCommand (take 7 d)) p e (λ h. cc) (λ h. cc)

-- no more groups are ended than are open
pub stop_is_open : (groups : ℕ) (d : List Base) (p : Piece PatItem) (x : PatItem) → pattern_piece (nat_lt 0 groups) d ≡ Some p → p.gives ≡ GivesItem x → stop_of x ≤ groups
stop_is_open groups d p (Literal b) e gives = omega arith
stop_is_open groups d p (Skip n) e gives = omega arith
stop_is_open groups d p (Search s) e gives = omega arith
stop_is_open groups d p GroupStart e gives = omega arith
stop_is_open groups d p GroupStop e gives = omega (arith, ltb-true 0 groups ((minds_groups (nat_lt 0 groups) d p e).0 gives))

pub end_is_closed : (groups : ℕ) (d : List Base) (p : Piece PatItem) → pattern_piece (nat_lt 0 groups) d ≡ Some p → p.gives ≡ GivesEnd → groups ≡ 0
end_is_closed groups d p e gives = omega (arith, ltb-false 0 groups ((minds_groups (nat_lt 0 groups) d p e).1 gives))

-- the fronts of items behind something given
front_step : (gives : Gives PatItem) (groups : ℕ) (items : List PatItem)
    → ((x : PatItem) → gives ≡ GivesItem x → stop_of x ≤ groups)
    → ((n : ℕ) → stops (take n items) ≤ open_after pattern_table groups gives + starts (take n items))
    → (n : ℕ) → stops (take n (item_of gives ++ items)) ≤ groups + starts (take n (item_of gives ++ items))
front_step (GivesItem x) groups items stop fronts zero = omega arith
front_step (GivesItem x) groups items stop fronts (suc n) = omega (arith, fronts n, stop x refl)
front_step (GivesCommand c) groups items stop fronts n = fronts n
front_step GivesEnd groups items stop fronts n = fronts n

fronts_of : (groups : ℕ) (cuts : List (Cut PatItem)) (rest : List Base) → AreCutBy pattern_table groups cuts rest
    → (n : ℕ) → stops (take n (items_of cuts)) ≤ groups + starts (take n (items_of cuts))
fronts_of groups [] rest is zero = omega arith
fronts_of groups [] rest is (suc n) = omega arith
fronts_of groups (cut ∷ cuts) rest is n =
    front_step cut.gives groups (items_of cuts)
    (λ x gives. stop_is_open groups (joined (cut ∷ cuts) rest) (record { takes = length cut.bases; gives = cut.gives }) x is.0.takes gives)
    (fronts_of (open_after pattern_table groups cut.gives) cuts rest is.1)
    n

even_step : (gives : Gives PatItem) (groups : ℕ) (items : List PatItem)
    → ((x : PatItem) → gives ≡ GivesItem x → stop_of x ≤ groups)
    → open_after pattern_table groups gives + starts items ≡ stops items
    → groups + starts (item_of gives ++ items) ≡ stops (item_of gives ++ items)
even_step (GivesItem x) groups items stop even = omega (arith, stop x refl)
even_step (GivesCommand c) groups items stop even = even
even_step GivesEnd groups items stop even = even

even_of : (groups : ℕ) (cuts : List (Cut PatItem)) (rest : List Base) → AreCutBy pattern_table groups cuts rest → is_ended cuts ≡ true
    → groups + starts (items_of cuts) ≡ stops (items_of cuts)
even_of groups [] rest is ended = cc
even_of groups (cut ∷ cuts) rest is ended =
    let piece : Piece PatItem = record { takes = length cut.bases; gives = cut.gives } in
    elim (end_cases cut.gives) [
      | inl more ↦
          even_step cut.gives groups (items_of cuts) (λ x gives. stop_is_open groups (joined (cut ∷ cuts) rest) piece x is.0.takes gives)
          (even_of (open_after pattern_table groups cut.gives) cuts rest is.1 (sym (is_ended_behind cut cuts more) ∙ ended))
      | inr end ↦
          let closed = end_is_closed groups (joined (cut ∷ cuts) rest) piece is.0.takes end in
          let none : cuts ≡ [] = subst (λ (g : Gives PatItem). EndsHere g cuts) end is.0.last in
          rw end (rw none (omega arith))
    ]

pub patterns_are_balanced : PatternsAreBalanced
patterns_are_balanced d items rna rest reads =
    let is = read_is (is_ended reads.0) reads.0 reads.1 rest items rna reads.3 in
    subst (λ l. IsBalanced l) (sym is.1) (record {
      even = omega (arith, even_of 0 reads.0 reads.1 reads.2.cut is.0);
      fronts = λ n. omega (arith, fronts_of 0 reads.0 reads.1 reads.2.cut n);
    })

-- an item opens one group at most
pub opened_few : (groups : ℕ) (gives : Gives PatItem) → open_after pattern_table groups gives ≤ groups + 1
opened_few groups (GivesItem (Literal b)) = omega arith
opened_few groups (GivesItem (Skip n)) = omega arith
opened_few groups (GivesItem (Search s)) = omega arith
opened_few groups (GivesItem GroupStart) = omega arith
opened_few groups (GivesItem GroupStop) = omega arith
opened_few groups (GivesCommand c) = omega arith
opened_few groups GivesEnd = omega arith
