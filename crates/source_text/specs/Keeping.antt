-- Pieces and names as they are kept: a list longer than the limit by its length alone.
use Rattle.std.specs.Prelude.{length, ◌≡◌, ℕ, ◌+◌, ◌^◌, ◌<◌, ◌≤◌, ◌==◌, ◌&&◌, if◌then◌else◌, Option, Some, None, Result, Ok, Err, List, [], ◌∷◌, min, nat_le, slice_index_or as get_or}
use Rattle.source_items.specs.declared.lines.Factor.{Factor}
use Rattle.source_items.specs.declared.lines.Factor.TheVariants.{Number}
use Rattle.std.specs.Borrow.{Bor}
use Rattle.source_tokens.specs.declared.words.Token.{Token}
use Rattle.source_text.specs.declared.held.Held.{Held}
use Rattle.source_text.specs.declared.names.Known.{Known}
use Rattle.source_text.specs.declared.names.Known.TheVariants as known
use Rattle.source_text.specs.declared.pieces.Piece.{Piece}
use Rattle.source_text.specs.Measured.{IsMeasured}
use Rattle.source_text.specs.Names.{Names, Meaning, Unknown, Reserved, Definition, Label, letter_pieces}
use Rattle.source_text.specs.Pieces.{are_bases, size}
use Rattle.source_text.specs.Reading.{Read}
use Rattle.source_text.specs.Sequences.{Uses, Worth}
use Rattle.source_text.specs.declared.parts.Found.{Found}
use Rattle.source_text.specs.declared.uses.Given.{Given}

-- pieces that count no more than the limit, or none
abbrev pub kept : ℕ → List Piece → List Piece
kept limit pieces = if nat_le (size pieces) limit then pieces else []

pub record IsHeld (limit : ℕ) (held : Held) (pieces : List Piece) : Type 0 where
  pub listed : held.items.items ≡ kept limit pieces
  pub counted : held.count ≡ min (size pieces) (2 ^ 63)
  pub judged : held.bases ≡ are_bases pieces
  pub measured : IsMeasured held.measure pieces

-- a definition with parameters is held whole
pub record IsDefinition (limit kept_count : ℕ) (held : Held) (count : ℕ) (pieces : List Piece) : Type 0 where
  pub same : kept_count ≡ count
  pub is : IsHeld limit held pieces
  pub whole : 0 < count → size pieces ≤ limit

-- what is known of a name is what it stands for
abbrev pub IsMeant : ℕ → Known → Meaning → Type 0
IsMeant limit known.Unknown Unknown = Unit {0}
IsMeant limit known.Unknown Reserved = ⊥
IsMeant limit known.Unknown (Definition count pieces) = ⊥
IsMeant limit known.Unknown (Label line twice) = ⊥
IsMeant limit known.Reserved Unknown = ⊥
IsMeant limit known.Reserved Reserved = Unit {0}
IsMeant limit known.Reserved (Definition count pieces) = ⊥
IsMeant limit known.Reserved (Label line twice) = ⊥
IsMeant limit (known.Definition n held) Unknown = ⊥
IsMeant limit (known.Definition n held) Reserved = ⊥
IsMeant limit (known.Definition n held) (Definition count pieces) = IsDefinition limit n held count pieces
IsMeant limit (known.Definition n held) (Label line twice) = ⊥
IsMeant limit (known.Label l t) Unknown = ⊥
IsMeant limit (known.Label l t) Reserved = ⊥
IsMeant limit (known.Label l t) (Definition count pieces) = ⊥
IsMeant limit (known.Label l t) (Label line twice) = (l ≡ line) × (t ≡ twice)

abbrev pub AreKnown : ℕ → List Known → Names → Type 0
AreKnown limit all names = (id : ℕ) → IsMeant limit (get_or all id known.Unknown) (names id)

-- the number that a definition stands for, by how it is kept
abbrev pub length_held : ℕ → Held → Option Factor
length_held count held = if count == 0 && held.bases then Some (Number held.count) else None

-- lists of pieces, as they are kept in turn
abbrev pub AreHeld : ℕ → List Held → List (List Piece) → Type 0
AreHeld limit [] [] = Unit {0}
AreHeld limit [] (pieces ∷ lists) = ⊥
AreHeld limit (held ∷ all) [] = ⊥
AreHeld limit (held ∷ all) (pieces ∷ lists) = IsHeld limit held pieces × AreHeld limit all lists

-- what was found is worth this
pub record IsWorth (limit : ℕ) (found : Found) (worth : Worth) : Type 0 where
  pub held : IsHeld limit found.held worth.pieces
  pub faults : found.faults ≡ worth.faults

-- a reading is the one that is defined
abbrev pub Reads : ℕ → Result (Found × Bor (List Token)) ℕ → Read Worth → Type 0
Reads limit (Ok read) defined = (worth : Worth) × (defined ≡ Ok (worth, read.1.now)) × IsWorth limit read.0 worth
Reads limit (Err left) defined = defined ≡ Err left

pub record IsGiven (limit : ℕ) (given : Given) (uses : Uses) : Type 0 where
  pub held : AreHeld limit given.held.items uses.given
  pub faults : given.faults ≡ uses.faults

-- likewise with the templates that a use gives
abbrev pub ReadsUses : ℕ → Result (Given × Bor (List Token)) ℕ → Read Uses → Type 0
ReadsUses limit (Ok read) defined = (uses : Uses) × (defined ≡ Ok (uses, read.1.now)) × IsGiven limit read.0 uses
ReadsUses limit (Err left) defined = defined ≡ Err left

-- definitions of these letters stand behind what was known
pub record AreAdded (limit : ℕ) (old : List Known) (commands : List (Bor (List ℕ))) (new : List Known) : Type 0 where
  pub len : length new ≡ length old + length commands
  pub before : (k : ℕ) → k < length old → get_or new k known.Unknown ≡ get_or old k known.Unknown
  pub added : (k : ℕ) (d : Bor (List ℕ)) → k < length commands → IsMeant limit (get_or new (length old + k) known.Unknown) (Definition 0 (letter_pieces (get_or commands k d).now))
