-- The cutting of a DNA, computed.
use Rattle.std.proofs.Common.{ℕ, zero, suc, Option, Some, None, List, [], ◌∷◌, take, drop, nat_lt}
use Rattle.fuun_base.specs.declared.letters.Base.{Base}
use Rattle.dna_reader.specs.Piece.{Gives, GivesItem, GivesCommand, GivesEnd, Piece}
use Rattle.dna_reader.specs.Reading.{Table, Cut, open_after, is_ended, Reading, reading_of}

-- cuts, and what is left behind them
pub record CutOff (Item : Type 0) : Type 0 where
  pub cuts : List (Cut Item)
  pub rest : List Base

abbrev pub behind : {Item : Type 0} → Gives Item → List Base → CutOff Item → CutOff Item
behind (GivesItem x) rest further = further
behind (GivesCommand c) rest further = further
behind GivesEnd rest further = record { cuts = []; rest = rest }

-- what starts with a piece
abbrev pub with_piece : {Item : Type 0} → List Base → Piece Item → CutOff Item → CutOff Item
with_piece d p further = record {
  cuts = record { bases = take p.takes d; gives = p.gives } ∷ further.cuts;
  rest = further.rest;
}

-- the same, where there is a piece
abbrev pub cut_off_at : {Item : Type 0} → List Base → Option (Piece Item) → (Piece Item → CutOff Item) → CutOff Item
cut_off_at d None next = record { cuts = []; rest = d }
cut_off_at d (Some p) next = with_piece d p (behind p.gives (drop p.takes d) (next p))

-- what a table cuts off, in so many steps at most
abbrev pub cut_off : {Item : Type 0} → Table Item → ℕ → ℕ → List Base → CutOff Item
cut_off table zero groups d = record { cuts = []; rest = d }
cut_off table (suc fuel) groups d =
    cut_off_at d (table.piece_of (nat_lt 0 groups) d) (λ p. cut_off table fuel (open_after table groups p.gives) (drop p.takes d))

-- the reading that is computed so
abbrev pub reading_by : {Item : Type 0} → Table Item → ℕ → ℕ → List Base → Reading Item
reading_by table fuel groups d = reading_of (is_ended (cut_off table fuel groups d).cuts) (cut_off table fuel groups d).cuts (cut_off table fuel groups d).rest
