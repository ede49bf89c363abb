-- Each DNA has one cutting by a table, and so one reading.
use Rattle.std.proofs.Common.{◌≡◌, ℕ, zero, suc, ◌+◌, ◌<◌, ◌≤◌, ◌⊎◌, inl, inr, Bool, true, false, Option, Some, None, List, [], ◌∷◌, ◌++◌, length, take, drop, arith, refl, ap, sym, ◌∙◌, subst, length-append, length-drop}
use Rattle.std.specs.Prelude.{nat_lt}
use Rattle.std.proofs.lemmas.List.{take-append-drop, length-take-le}
use Rattle.std.proofs.lemmas.Option.{same_Some}
use Rattle.dna_reader.proofs.Cutting.{CutOff, behind, cut_off_at, cut_off, reading_by}
use Rattle.std.proofs.Math.Seq.{drop-append_seam, take-append_seam}
use Rattle.fuun_base.specs.declared.letters.Base.{Base}
use Rattle.dna_reader.specs.Piece.{Gives, GivesItem, GivesCommand, GivesEnd, Piece}
use Rattle.dna_reader.specs.Reading.{Table, Cut, joined, open_after, is_end, EndsHere, is_ended, IsCutBy, AreCutBy, IsCutting, item_of, command_of, items_of, commands_of, Reading, Read, RanOut, reading_of, ReadsFrom}
use Rattle.dna_reader.specs.PieceByPiece.{prefixed}
use Rattle.dna_reader.specs.ReadingLaws.{TakesWhatIsThere, HasCutting, HasOneCutting, HasReading, HasOneReading, HasShortReadings, HasShortRna}

-- the cut that a piece makes at the front of d
abbrev pub cut_of : {Item : Type 0} → Piece Item → List Base → Cut Item
cut_of p d = record { bases = take p.takes d; gives = p.gives }

pub is_ended_behind : {Item : Type 0} (cut : Cut Item) (cuts : List (Cut Item)) → is_end cut.gives ≡ false → is_ended (cut ∷ cuts) ≡ is_ended cuts
is_ended_behind cut [] e = e
is_ended_behind cut (next ∷ cuts) e = refl

not_ended_here : {Item : Type 0} (gives : Gives Item) (cuts : List (Cut Item)) → is_end gives ≡ false → EndsHere gives cuts
not_ended_here (GivesItem x) cuts e = tt
not_ended_here (GivesCommand c) cuts e = tt
not_ended_here GivesEnd cuts e = cc

module _ {Item : Type 0} (table : Table Item) (groups : ℕ) (d : List Base) where
  -- where there is no piece, nothing is cut
  pub cutting_of_none : table.piece_of (nat_lt 0 groups) d ≡ None → IsCutting table groups d [] d
  cutting_of_none none = record { whole = refl; cut = tt; stops = λ _. none }

  piece_at : (p : Piece Item) → p.takes ≤ length d → (rest : List Base) → rest ≡ drop p.takes d → table.piece_of (nat_lt 0 groups) d ≡ Some p
      → table.piece_of (nat_lt 0 groups) (take p.takes d ++ rest) ≡ Some (record { takes = length (take p.takes d); gives = p.gives })
  piece_at p within rest is piece =
      let whole : take p.takes d ++ rest ≡ d = ap (λ r. take p.takes d ++ r) is ∙ take-append-drop p.takes d in
      rw whole (rw (length-take-le p.takes d within) piece)

  cut_at : (p : Piece Item) → 0 < p.takes → p.takes ≤ length d → (rest : List Base) (cuts : List (Cut Item)) → joined cuts rest ≡ drop p.takes d
      → table.piece_of (nat_lt 0 groups) d ≡ Some p → EndsHere p.gives cuts → IsCutBy table groups (cut_of p d) cuts rest
  cut_at p some within rest cuts is piece last = record {
    some = rw (length-take-le p.takes d within) some;
    takes = piece_at p within (joined cuts rest) is piece;
    last = last;
  }

  -- a piece that gives the end is the last cut
  pub cutting_of_end : (p : Piece Item) → table.piece_of (nat_lt 0 groups) d ≡ Some p → 0 < p.takes → p.takes ≤ length d → p.gives ≡ GivesEnd
      → IsCutting table groups d (cut_of p d ∷ []) (drop p.takes d)
  cutting_of_end p piece some within end = record {
    whole = take-append-drop p.takes d;
    cut = (cut_at p some within (drop p.takes d) [] refl piece (subst (λ (g : Gives Item). EndsHere g []) (sym end) refl), tt);
    stops = λ ended. let is : is_end p.gives ≡ true = ap is_end end in cc;
  }

  -- another piece stands before the cutting of what is behind it
  pub cutting_of_more : (p : Piece Item) (cuts : List (Cut Item)) (rest : List Base)
      → table.piece_of (nat_lt 0 groups) d ≡ Some p → 0 < p.takes → p.takes ≤ length d → is_end p.gives ≡ false
      → IsCutting table (open_after table groups p.gives) (drop p.takes d) cuts rest
      → IsCutting table groups d (cut_of p d ∷ cuts) rest
  cutting_of_more p cuts rest piece some within more behind = record {
    whole = ap (λ r. take p.takes d ++ r) behind.whole ∙ take-append-drop p.takes d;
    cut = (cut_at p some within rest cuts behind.whole piece (not_ended_here p.gives cuts more), behind.cut);
    stops = λ ended. behind.stops (sym (is_ended_behind (cut_of p d) cuts more) ∙ ended);
  }

pub whole_behind : {Item : Type 0} (table : Table Item) (groups : ℕ) (d : List Base) (cut : Cut Item) (cuts : List (Cut Item)) (rest : List Base)
    → IsCutting table groups d (cut ∷ cuts) rest → joined cuts rest ≡ drop (length cut.bases) d
whole_behind table groups d cut cuts rest is = sym (drop-append_seam cut.bases (joined cuts rest)) ∙ ap (λ l. drop (length cut.bases) l) is.whole

-- the first cut taken off, the others are the cutting of what is behind it
pub cutting_behind : {Item : Type 0} (table : Table Item) (groups : ℕ) (d : List Base) (cut : Cut Item) (cuts : List (Cut Item)) (rest : List Base)
    → IsCutting table groups d (cut ∷ cuts) rest → is_end cut.gives ≡ false
    → IsCutting table (open_after table groups cut.gives) (drop (length cut.bases) d) cuts rest
cutting_behind table groups d cut cuts rest is more = record {
  whole = whole_behind table groups d cut cuts rest is;
  cut = is.cut.1;
  stops = λ ended. is.stops (is_ended_behind cut cuts more ∙ ended);
}

-- the piece of which the first cut was made
pub piece_of_cut : {Item : Type 0} (table : Table Item) (groups : ℕ) (d : List Base) (cut : Cut Item) (cuts : List (Cut Item)) (rest : List Base)
    → IsCutting table groups d (cut ∷ cuts) rest
    → (table.piece_of (nat_lt 0 groups) d ≡ Some (record { takes = length cut.bases; gives = cut.gives })) × (cut.bases ≡ take (length cut.bases) d)
piece_of_cut table groups d cut cuts rest is = (
  rw is.whole at is.cut.0.takes,
  sym (take-append_seam cut.bases (joined cuts rest)) ∙ ap (λ l. take (length cut.bases) l) is.whole,
)

same_cut : {Item : Type 0} (a b : Cut Item) → a.bases ≡ b.bases → a.gives ≡ b.gives → a ≡ b
same_cut {Item} a b bases gives =
    ap (λ (l : List Base). let cut : Cut Item = record { bases = l; gives = a.gives } in cut) bases
    ∙ ap (λ (g : Gives Item). let cut : Cut Item = record { bases = b.bases; gives = g } in cut) gives

-- whether it is the end, and what then stands behind the cut
pub end_cases : {Item : Type 0} (gives : Gives Item) → (is_end gives ≡ false) ⊎ (gives ≡ GivesEnd)
end_cases (GivesItem x) = inl refl
end_cases (GivesCommand c) = inl refl
end_cases GivesEnd = inr refl

-- a cutting is the only one
same_cutting : {Item : Type 0} (table : Table Item) (a b : List (Cut Item)) (groups : ℕ) (d r s : List Base)
    → IsCutting table groups d a r → IsCutting table groups d b s → (a ≡ b) × (r ≡ s)
same_cutting table [] [] groups d r s x y = (refl, x.whole ∙ sym y.whole)
same_cutting table [] (cut ∷ b) groups d r s x y =
    let none : table.piece_of (nat_lt 0 groups) d ≡ None = rw x.whole at (x.stops refl) in
    let some = (piece_of_cut table groups d cut b s y).0 in
    cc
same_cutting table (cut ∷ a) [] groups d r s x y =
    let none : table.piece_of (nat_lt 0 groups) d ≡ None = rw y.whole at (y.stops refl) in
    let some = (piece_of_cut table groups d cut a r x).0 in
    cc
same_cutting {Item} table (cut ∷ a) (other ∷ b) groups d r s x y =
    let left = piece_of_cut table groups d cut a r x in
    let right = piece_of_cut table groups d other b s y in
    let here : Piece Item = record { takes = length cut.bases; gives = cut.gives } in
    let there : Piece Item = record { takes = length other.bases; gives = other.gives } in
    let piece : here ≡ there = same_Some here there (sym left.0 ∙ right.0) in
    let lengths : length cut.bases ≡ length other.bases = ap (λ (p : Piece Item). p.takes) piece in
    let first : cut ≡ other = same_cut cut other (left.1 ∙ ap (λ n. take n d) lengths ∙ sym right.1) (ap (λ (p : Piece Item). p.gives) piece) in
    let too : IsCutting table groups d (cut ∷ b) s = subst (λ c. IsCutting table groups d (c ∷ b) s) (sym first) y in
    elim (end_cases cut.gives) [
      | inl more ↦
          let more_same =
          same_cutting table a b (open_after table groups cut.gives) (drop (length cut.bases) d) r s (cutting_behind table groups d cut a r x more) (cutting_behind table groups d cut b s too more) in
          (ap (λ l. cut ∷ l) more_same.0 ∙ ap (λ c. c ∷ b) first, more_same.1)
      | inr end ↦
          let none : a ≡ [] = subst (λ (g : Gives Item). EndsHere g a) end x.cut.0.last in
          let neither : b ≡ [] = subst (λ (g : Gives Item). EndsHere g b) end too.cut.0.last in (
            ap (λ l. cut ∷ l) (none ∙ sym neither) ∙ ap (λ c. c ∷ b) first,
            ap (λ l. joined l r) (sym none) ∙ whole_behind table groups d cut a r x ∙ sym (whole_behind table groups d cut b s too) ∙ ap (λ l. joined l s) neither,
          )
    ]

pub one_cutting : {Item : Type 0} (table : Table Item) → HasOneCutting table
one_cutting table groups d a b r s x y = same_cutting table a b groups d r s x y

-- a reading is the only one
pub one_reading : {Item : Type 0} (table : Table Item) → HasOneReading table
one_reading table groups d a b x y =
    let same = same_cutting table x.0 y.0 groups d x.1 y.1 x.2 y.2 in
    x.3 ∙ ap (λ l. reading_of (is_ended l) l x.1) same.0 ∙ ap (λ l. reading_of (is_ended y.0) y.0 l) same.1 ∙ sym y.3

option_cases : {A : Type 0} (o : Option A) → (o ≡ None) ⊎ ((x : A) × (o ≡ Some x))
option_cases None = inl refl
option_cases (Some x) = inr (x, refl)

module _ {Item : Type 0} (table : Table Item) (fits : TakesWhatIsThere table) where
  cutting_at_gives : (groups : ℕ) (d : List Base) (p : Piece Item) (next : CutOff Item) (gives : Gives Item)
      → table.piece_of (nat_lt 0 groups) d ≡ Some p
      → p.gives ≡ gives
      → IsCutting table (open_after table groups p.gives) (drop p.takes d) next.cuts next.rest
      → IsCutting table groups d (cut_of p d ∷ (behind gives (drop p.takes d) next).cuts) (behind gives (drop p.takes d) next).rest
  cutting_at_gives groups d p next (GivesItem x) piece gives is =
      let there = fits.takes (nat_lt 0 groups) d p piece in
      cutting_of_more table groups d p next.cuts next.rest piece there.0 there.1 (ap is_end gives) is
  cutting_at_gives groups d p next (GivesCommand c) piece gives is =
      let there = fits.takes (nat_lt 0 groups) d p piece in
      cutting_of_more table groups d p next.cuts next.rest piece there.0 there.1 (ap is_end gives) is
  cutting_at_gives groups d p next GivesEnd piece gives is =
      let there = fits.takes (nat_lt 0 groups) d p piece in
      cutting_of_end table groups d p piece there.0 there.1 gives

  cutting_at_piece : (groups : ℕ) (d : List Base) (o : Option (Piece Item)) (next : Piece Item → CutOff Item)
      → table.piece_of (nat_lt 0 groups) d ≡ o
      → ((p : Piece Item) → o ≡ Some p → IsCutting table (open_after table groups p.gives) (drop p.takes d) (next p).cuts (next p).rest)
      → IsCutting table groups d (cut_off_at d o next).cuts (cut_off_at d o next).rest
  cutting_at_piece groups d None next piece is = cutting_of_none table groups d piece
  cutting_at_piece groups d (Some p) next piece is = cutting_at_gives groups d p (next p) p.gives piece refl (is p refl)

  -- the cuts that are computed are the cutting
  pub cutting_of_cut_off : (fuel groups : ℕ) (d : List Base) → length d ≤ fuel → IsCutting table groups d (cut_off table fuel groups d).cuts (cut_off table fuel groups d).rest
  cutting_of_cut_off zero groups d le =
      elim (option_cases (table.piece_of (nat_lt 0 groups) d)) [
        | inl none ↦ cutting_of_none table groups d none
        | inr some ↦ let there = fits.takes (nat_lt 0 groups) d some.0 some.1 in absurd (omega arith)
      ]
  cutting_of_cut_off (suc fuel) groups d le =
      cutting_at_piece groups d (table.piece_of (nat_lt 0 groups) d) (λ p. cut_off table fuel (open_after table groups p.gives) (drop p.takes d)) refl
      (λ p piece. let there = fits.takes (nat_lt 0 groups) d p piece in cutting_of_cut_off fuel (open_after table groups p.gives) (drop p.takes d) (omega (arith, length-drop p.takes d)))

  -- the computed reading is the reading
  pub reads_computed : (fuel groups : ℕ) (d : List Base) → length d ≤ fuel → ReadsFrom table groups d (reading_by table fuel groups d)
  reads_computed fuel groups d le = ((cut_off table fuel groups d).cuts, (cut_off table fuel groups d).rest, cutting_of_cut_off fuel groups d le, refl)

  pub has_cutting : HasCutting table
  has_cutting groups d = ((cut_off table (length d) groups d).cuts, (cut_off table (length d) groups d).rest, cutting_of_cut_off (length d) groups d (omega arith))

  pub has_reading : HasReading table
  has_reading groups d = (reading_by table (length d) groups d, reads_computed (length d) groups d (omega arith))

  prefixed_reading : (b : Bool) (cut : Cut Item) (cuts : List (Cut Item)) (rest : List Base) → reading_of b (cut ∷ cuts) rest ≡ prefixed (item_of cut.gives) (command_of cut.gives) (reading_of b cuts rest)
  prefixed_reading true cut cuts rest = refl
  prefixed_reading false cut cuts rest = refl

  -- a piece in front of a reading
  pub reads_more : (groups : ℕ) (d : List Base) (p : Piece Item) (reading : Reading Item)
      → table.piece_of (nat_lt 0 groups) d ≡ Some p → is_end p.gives ≡ false
      → ReadsFrom table (open_after table groups p.gives) (drop p.takes d) reading
      → ReadsFrom table groups d (prefixed (item_of p.gives) (command_of p.gives) reading)
  reads_more groups d p reading piece more reads =
      let there = fits.takes (nat_lt 0 groups) d p piece in (
        cut_of p d ∷ reads.0,
        reads.1,
        cutting_of_more table groups d p reads.0 reads.1 piece there.0 there.1 more reads.2,
        ap (λ r. prefixed (item_of p.gives) (command_of p.gives) r) reads.3
            ∙ sym (prefixed_reading (is_ended reads.0) (cut_of p d) reads.0 reads.1)
            ∙ ap (λ b. reading_of b (cut_of p d ∷ reads.0) reads.1) (sym (is_ended_behind (cut_of p d) reads.0 more)),
      )

  -- the end
  pub reads_end : (groups : ℕ) (d : List Base) (p : Piece Item) → table.piece_of (nat_lt 0 groups) d ≡ Some p → p.gives ≡ GivesEnd
      → ReadsFrom table groups d (Read [] [] (drop p.takes d))
  reads_end groups d p piece end =
      let there = fits.takes (nat_lt 0 groups) d p piece in (
        cut_of p d ∷ [],
        drop p.takes d,
        cutting_of_end table groups d p piece there.0 there.1 end,
        sym (rw end refl),
      )

  -- no piece
  pub reads_none : (groups : ℕ) (d : List Base) → table.piece_of (nat_lt 0 groups) d ≡ None → ReadsFrom table groups d (RanOut [])
  reads_none groups d none = ([], d, cutting_of_none table groups d none, refl)

-- what a cutting comes to, where it is a reading to an end
pub read_is : {Item : Type 0} (b : Bool) (cuts : List (Cut Item)) (rest after : List Base) (items : List Item) (rna : List (List Base))
    → Read items rna after ≡ reading_of b cuts rest → (b ≡ true) × (items ≡ items_of cuts) × (rna ≡ commands_of cuts) × (after ≡ rest)
read_is true cuts rest after items rna e = (refl, cc, cc, cc)
read_is false cuts rest after items rna e = cc

pub ran_out_is : {Item : Type 0} (b : Bool) (cuts : List (Cut Item)) (rest : List Base) (rna : List (List Base))
    → RanOut rna ≡ reading_of b cuts rest → (b ≡ false) × (rna ≡ commands_of cuts)
ran_out_is true cuts rest rna e = cc
ran_out_is false cuts rest rna e = (refl, cc)

gives_one : {Item : Type 0} (gives : Gives Item) (items : List Item) (rna : List (List Base)) → length (item_of gives ++ items) + length (command_of gives ++ rna) ≤ 1 + length items + length rna
gives_one (GivesItem x) items rna = omega arith
gives_one (GivesCommand c) items rna = omega arith
gives_one GivesEnd items rna = omega arith

-- no more was given than was cut
few_given : {Item : Type 0} (table : Table Item) (groups : ℕ) (cuts : List (Cut Item)) (rest : List Base) → AreCutBy table groups cuts rest
    → length (items_of cuts) + length (commands_of cuts) + length rest ≤ length (joined cuts rest)
few_given table groups [] rest is = omega arith
few_given table groups (cut ∷ cuts) rest is =
    omega (arith, few_given table (open_after table groups cut.gives) cuts rest is.1, gives_one cut.gives (items_of cuts) (commands_of cuts), is.0.some, length-append cut.bases (joined cuts rest))

pub short_readings : {Item : Type 0} (table : Table Item) → HasShortReadings table
short_readings table groups d items rna rest reads =
    let is = read_is (is_ended reads.0) reads.0 reads.1 rest items rna reads.3 in
    let few = few_given table groups reads.0 reads.1 reads.2.cut in
    let whole = ap length reads.2.whole in
    rw is.1 (rw is.2 (rw is.3 (omega arith)))

pub short_rna : {Item : Type 0} (table : Table Item) → HasShortRna table
short_rna table groups d rna reads =
    let is = ran_out_is (is_ended reads.0) reads.0 reads.1 rna reads.3 in
    let few = few_given table groups reads.0 reads.1 reads.2.cut in
    let whole = ap length reads.2.whole in
    rw is.1 (omega arith)
