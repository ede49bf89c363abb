-- Commands of RNA are short, and their lines are read again.
use Rattle.std.proofs.Common.{◌≡◌, ℕ, ◌+◌, ◌≤◌, Bool, true, false, Option, Some, None, List, [], ◌∷◌, ◌++◌, length, take, drop, map, arith, refl, ap, sym, ◌∙◌, subst, length-take, append_assoc}
use Rattle.std.specs.Prelude.{not}
use Rattle.std.specs.List.{AllByRecursion, list_all, filter_map, position_from}
use Rattle.std.specs.Option.{option_map, option_and_then}
use Rattle.std.proofs.lemmas.List.{length-map}
use Rattle.fuun_base.specs.declared.letters.Base.{Base}
use Rattle.fuun_base.specs.declared.letters.Base.TheVariants.{I, C, F, P}
use Rattle.fuun_base.specs.Letter.{base_of, is_letter, letter_of}
use Rattle.fuun_base.specs.Lines.{before_lines, lines}
use Rattle.fuun_base.specs.RnaFile.{command_of, commands, is_command}
use Rattle.fuun_base.proofs.RnaLines.{command_of_letters}
use Rattle.dna_items.specs.declared.items.PatItem.TheVariants.{Skip}
use Rattle.dna_items.specs.declared.items.TplItem.{TplItem}
use Rattle.dna_items.specs.declared.items.TplItem.TheVariants.{Group, Len}
use Rattle.dna_reader.specs.Numeral.{numeral}
use Rattle.dna_reader.specs.Piece.{Gives, GivesItem, GivesCommand, GivesEnd, Piece, pattern_piece, template_piece}
use Rattle.dna_reader.specs.Reading.{Table, Cut, open_after, AreCutBy, is_ended, commands_of, Reading, reading_of, rna_in}
use Rattle.dna_reader.specs.Reading as reading
use Rattle.dna_reader.specs.Tables.{pattern_table, template_table}
use Rattle.dna_reader.specs.RnaLines.{rna_lines}
use Rattle.dna_reader.specs.CommandLaws.{IsCommand, GivesCommands, LinesAreRead, LinesAreGood}

-- what is given is a command only where that is short
abbrev IsShort : {Item : Type 0} → Gives Item → Type 0
IsShort (GivesItem x) = Unit {0}
IsShort (GivesCommand c) = IsCommand c
IsShort GivesEnd = Unit {0}

abbrev pub PieceIsShort : {Item : Type 0} → Option (Piece Item) → Type 0
PieceIsShort None = Unit {0}
PieceIsShort (Some p) = IsShort p.gives

front_is_short : (d : List Base) → IsCommand (take 7 d)
front_is_short d = omega (arith, length-take 7 d)

number_is_short : {Item : Type 0} (size : ℕ × ℕ → ℕ) (make : ℕ × ℕ → Item) (found : Option (ℕ × ℕ))
    → PieceIsShort (option_map (λ n. let piece : Piece Item = record { takes = size n; gives = GivesItem (make n) } in piece) found)
number_is_short size make None = tt
number_is_short size make (Some n) = tt

reference_is_short_by : (d : List Base) (level : Option (ℕ × ℕ))
    → PieceIsShort (option_and_then (λ level. option_map (λ n. let piece : Piece TplItem = record { takes = 2 + level.1 + n.1; gives = GivesItem (Group n.0 level.0) } in piece) (numeral (drop level.1 d))) level)
reference_is_short_by d None = tt
reference_is_short_by d (Some level) = number_is_short (λ n. 2 + level.1 + n.1) (λ n. Group n.0 level.0) (numeral (drop level.1 d))

pattern_is_short : (is_open : Bool) (d : List Base) → PieceIsShort (pattern_piece is_open d)
pattern_is_short is_open [] = tt
pattern_is_short is_open (C ∷ d) = tt
pattern_is_short is_open (F ∷ d) = tt
pattern_is_short is_open (P ∷ d) = tt
pattern_is_short is_open (I ∷ []) = tt
pattern_is_short is_open (I ∷ C ∷ d) = tt
pattern_is_short is_open (I ∷ P ∷ d) = number_is_short (λ n. 2 + n.1) (λ n. Skip n.0) (numeral d)
pattern_is_short is_open (I ∷ F ∷ d) = tt
pattern_is_short is_open (I ∷ I ∷ []) = tt
pattern_is_short is_open (I ∷ I ∷ P ∷ d) = tt
pattern_is_short true (I ∷ I ∷ C ∷ d) = tt
pattern_is_short false (I ∷ I ∷ C ∷ d) = tt
pattern_is_short true (I ∷ I ∷ F ∷ d) = tt
pattern_is_short false (I ∷ I ∷ F ∷ d) = tt
pattern_is_short is_open (I ∷ I ∷ I ∷ d) = front_is_short d

template_is_short : (is_open : Bool) (d : List Base) → PieceIsShort (template_piece d)
template_is_short is_open [] = tt
template_is_short is_open (C ∷ d) = tt
template_is_short is_open (F ∷ d) = tt
template_is_short is_open (P ∷ d) = tt
template_is_short is_open (I ∷ []) = tt
template_is_short is_open (I ∷ C ∷ d) = tt
template_is_short is_open (I ∷ F ∷ d) = reference_is_short_by d (numeral d)
template_is_short is_open (I ∷ P ∷ d) = reference_is_short_by d (numeral d)
template_is_short is_open (I ∷ I ∷ []) = tt
template_is_short is_open (I ∷ I ∷ C ∷ d) = tt
template_is_short is_open (I ∷ I ∷ F ∷ d) = tt
template_is_short is_open (I ∷ I ∷ P ∷ d) = number_is_short (λ n. 3 + n.1) (λ n. Len n.0) (numeral d)
template_is_short is_open (I ∷ I ∷ I ∷ d) = front_is_short d

-- what was given before others
given_before : {Item : Type 0} (gives : Gives Item) (more : List (List Base)) → IsShort gives → AllByRecursion IsCommand more → AllByRecursion IsCommand (reading.command_of gives ++ more)
given_before (GivesItem x) more short rest = rest
given_before (GivesCommand c) more short rest = (short, rest)
given_before GivesEnd more short rest = rest

cuts_are_short : {Item : Type 0} (table : Table Item) → ((is_open : Bool) (d : List Base) → PieceIsShort (table.piece_of is_open d))
    → (groups : ℕ) (cuts : List (Cut Item)) (rest : List Base) → AreCutBy table groups cuts rest → AllByRecursion IsCommand (commands_of cuts)
cuts_are_short table each groups [] rest are = tt
cuts_are_short table each groups (cut ∷ cuts) rest are =
    given_before cut.gives (commands_of cuts) (subst PieceIsShort are.0.takes (each _ _)) (cuts_are_short table each (open_after table groups cut.gives) cuts rest are.1)

rna_of_cuts : {Item : Type 0} (ended : Bool) (cuts : List (Cut Item)) (rest : List Base) → rna_in (reading_of ended cuts rest) ≡ commands_of cuts
rna_of_cuts true cuts rest = refl
rna_of_cuts false cuts rest = refl

gives_commands : {Item : Type 0} (table : Table Item) → ((is_open : Bool) (d : List Base) → PieceIsShort (table.piece_of is_open d)) → GivesCommands table
gives_commands table each groups d read reads =
    subst (AllByRecursion IsCommand) (sym (ap rna_in reads.3 ∙ rna_of_cuts (is_ended reads.0) reads.0 reads.1)) (cuts_are_short table each groups reads.0 reads.1 reads.2.cut)

pub pattern_gives : GivesCommands pattern_table
pattern_gives = gives_commands pattern_table pattern_is_short

pub template_gives : GivesCommands template_table
template_gives = gives_commands template_table template_is_short

-- lines

-- the bases of letters
pub bases_of_letters : (d : List Base) → filter_map base_of (map letter_of d) ≡ d
bases_of_letters [] = refl
bases_of_letters (I ∷ d) = ap (λ l. I ∷ l) (bases_of_letters d)
bases_of_letters (C ∷ d) = ap (λ l. C ∷ l) (bases_of_letters d)
bases_of_letters (F ∷ d) = ap (λ l. F ∷ l) (bases_of_letters d)
bases_of_letters (P ∷ d) = ap (λ l. P ∷ l) (bases_of_letters d)

pub letters_are_letters : (d : List Base) → list_all is_letter (map letter_of d) ≡ true
letters_are_letters [] = refl
letters_are_letters (I ∷ d) = letters_are_letters d
letters_are_letters (C ∷ d) = letters_are_letters d
letters_are_letters (F ∷ d) = letters_are_letters d
letters_are_letters (P ∷ d) = letters_are_letters d

line_before : (command : List Base) (bytes : List ℕ) → lines (map letter_of command ++ 10 ∷ bytes) ≡ map letter_of command ∷ lines bytes
line_before [] bytes = refl
line_before (I ∷ command) bytes = ap (before_lines 73) (line_before command bytes)
line_before (C ∷ command) bytes = ap (before_lines 67) (line_before command bytes)
line_before (F ∷ command) bytes = ap (before_lines 70) (line_before command bytes)
line_before (P ∷ command) bytes = ap (before_lines 80) (line_before command bytes)

lines_before : (command : List Base) (rna : List (List Base)) → lines (rna_lines (command ∷ rna)) ≡ map letter_of command ∷ lines (rna_lines rna)
lines_before command rna = ap lines (append_assoc (map letter_of command) (10 ∷ []) (rna_lines rna)) ∙ line_before command (rna_lines rna)

pub lines_are_read : LinesAreRead
lines_are_read [] = refl
lines_are_read (command ∷ rna) =
    ap (map command_of) (lines_before command rna) ∙ ap (λ c. c ∷ commands (rna_lines rna)) (bases_of_letters command) ∙ ap (λ l. command ∷ l) (lines_are_read rna)

none_bad : (line : ℕ) (rna : List (List Base)) → AllByRecursion IsCommand rna → position_from (λ l. not (is_command l)) line (lines (rna_lines rna)) ≡ None
none_bad line [] all = refl
none_bad line (command ∷ rna) all =
    let short : length command ≤ 7 = all.0 in
    let good : is_command (map letter_of command) ≡ true = command_of_letters (map letter_of command) (omega (arith, length-map command letter_of)) (letters_are_letters command) in
    rw (lines_before command rna) (rw good (none_bad (line + 1) rna all.1))

pub lines_are_good : LinesAreGood
lines_are_good rna all = none_bad 1 rna all
