-- A source with blanks for its comments, and for the line ends that join lines: each byte keeps its place.
use Rattle.std.specs.Prelude.{ℕ, ◌==◌, ◌&&◌, ◌||◌, if◌then◌else◌, Bool, true, false, List, [], ◌∷◌, drop}
use Rattle.source_tokens.specs.declared.bytes.Kind.TheVariants.{Blank}
use Rattle.source_tokens.specs.declared.plain.Turn.{Turn}
use Rattle.source_tokens.specs.Bytes.{stretch}

-- nothing is left, or a line feed or a comment stands at the front
abbrev pub ends_here : List ℕ → Bool
ends_here [] = true
ends_here (byte ∷ bytes) = byte == 10 || byte == 35

-- only blanks and a comment stand before the end of the line
abbrev pub ends_line : List ℕ → Bool
ends_line bytes = ends_here (drop (stretch Blank bytes) bytes)

-- a byte is the `\` that joins its line to the next: the last that is no blank and no part of a comment
abbrev pub is_join : ℕ → List ℕ → Bool
is_join byte rest = byte == 92 && ends_line rest

-- how a line is read: in its comment or not, and behind such a `\` or not
abbrev pub turn_of : Bool → Bool → Turn
turn_of comment joined = record { comment = comment; joined = joined }

-- what stands for a byte
abbrev pub shown : Turn → ℕ → List ℕ → ℕ
shown turn byte rest =
    if byte == 10 then (if turn.joined then 32 else 10)
    else if turn.comment || (byte == 35 || is_join byte rest) then 32
    else byte

-- how its line is read behind a byte
abbrev pub after : Turn → ℕ → List ℕ → Turn
after turn byte rest =
    if byte == 10 then turn_of false false
    else if turn.comment || byte == 35 then turn_of true turn.joined
    else turn_of false (turn.joined || is_join byte rest)

abbrev pub text : Turn → List ℕ → List ℕ
text turn [] = []
text turn (byte ∷ bytes) = shown turn byte bytes ∷ text (after turn byte bytes) bytes

-- the source as it is read
unfoldable pub plain : List ℕ → List ℕ
plain bytes = text (turn_of false false) bytes
