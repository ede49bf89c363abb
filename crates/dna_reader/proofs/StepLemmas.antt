-- Piece after piece: what was read so far, and how it ends.
use Rattle.std.proofs.Common.{◌≡◌, ℕ, ◌+◌, ◌≤◌, inl, inr, true, false, not, None, List, [], ◌∷◌, ◌++◌, length, drop, map, arith, refl, ap, sym, ◌∙◌, subst, length-append, append-nil}
use Rattle.std.specs.Prelude.{nat_lt}
use Rattle.std.proofs.lemmas.List.{drop-drop, append_assoc, map-append}
use Rattle.fuun_base.specs.declared.letters.Base.{Base}
use Rattle.dna_reader.specs.Piece.{Gives, GivesItem, GivesCommand, GivesEnd, Piece}
use Rattle.dna_reader.specs.Reading.{Table, open_after, is_end, item_of, command_of, Reading, Read, RanOut, ReadsFrom, rna_in}
use Rattle.dna_reader.specs.ReadingLaws.{TakesWhatIsThere}
use Rattle.dna_reader.specs.Taking.{RanOutTaking, StandsWithin}
use Rattle.dna_reader.specs.PieceByPiece.{prefixed, PieceIsKept, StopsAtPiece, ReadSoFar}
use Rattle.dna_reader.proofs.ReadingLemmas.{has_reading, reads_more, reads_end, reads_none}

-- what stands in front of what stands in front
prefixed_twice : {Item : Type 0} (a b : List Item) (x y : List (List Base)) (reading : Reading Item) → prefixed a x (prefixed b y reading) ≡ prefixed (a ++ b) (x ++ y) reading
prefixed_twice a b x y (Read items rna rest) =
    ap (λ l. Read l (x ++ (y ++ rna)) rest) (sym (append_assoc a b items)) ∙ ap (λ l. Read ((a ++ b) ++ items) l rest) (sym (append_assoc x y rna))
prefixed_twice a b x y (RanOut rna) = ap (λ l. RanOut l) (sym (append_assoc x y rna))

rna_of_prefixed : {Item : Type 0} (a : List Item) (x : List (List Base)) (reading : Reading Item) → rna_in (prefixed a x reading) ≡ x ++ rna_in reading
rna_of_prefixed a x (Read items rna rest) = refl
rna_of_prefixed a x (RanOut rna) = refl

one_command : {Item : Type 0} (gives : Gives Item) → length (command_of gives) ≤ 1
one_command (GivesItem x) = omega arith
one_command (GivesCommand c) = omega arith
one_command GivesEnd = omega arith

not_end : {Item : Type 0} (gives : Gives Item) → true ≡ not (is_end gives) → is_end gives ≡ false
not_end (GivesItem x) e = refl
not_end (GivesCommand c) e = refl
not_end GivesEnd e = cc

the_end : {Item : Type 0} (gives : Gives Item) → false ≡ not (is_end gives) → gives ≡ GivesEnd
the_end (GivesItem x) e = cc
the_end (GivesCommand c) e = cc
the_end GivesEnd e = refl

module _ {Taker Item : Type 0} (table : Table Item) (held : Item → Item) (fits : TakesWhatIsThere table)
    (follows : Taker → List (List Base) → Taker → Type 0) (within : Taker → List (List Base) → Taker → Type 0)
    (stays : (a : Taker) → follows a [] a)
    (goes_on : (a b c : Taker) (x y : List (List Base)) → follows a x b → follows b y c → follows a (x ++ y) c)
    (starts : (a b : Taker) (x y : List (List Base)) → follows a x b → within a (x ++ y) b)
    (goes_within : (a b c : Taker) (x y : List (List Base)) → follows a x b → within b y c → within a (x ++ y) c)
    (widens : (a b : Taker) (x y : List (List Base)) → within a x b → within a (x ++ y) b)
    (d : List Base) (start place groups : ℕ) (items : List Item) (old mid new : Taker) where
  -- at the start nothing is read
  pub nothing_read : ReadSoFar table held follows d start start 0 [] old old
  nothing_read = record {
    read = [];
    rna = [];
    kept = refl;
    taken = stays old;
    few = omega arith;
    opened = omega arith;
    goes_on = λ reading reads. subst (λ r. ReadsFrom table 0 (drop start d) r) (same reading) reads;
  } where
    same : (reading : Reading Item) → reading ≡ prefixed [] [] reading
    same (Read items rna rest) = refl
    same (RanOut rna) = refl

  -- one piece more
  pub read_more : (next opened : ℕ) (longer : List Item) → ReadSoFar table held follows d start place groups items old mid
      → PieceIsKept table held follows d place next groups opened items longer mid new true
      → opened ≤ groups + 1
      → ReadSoFar table held follows d start next opened longer old new
  read_more next opened longer far kept few =
      let there = fits.takes (nat_lt 0 groups) (drop place d) kept.piece kept.is in
      record {
        read = far.read ++ item_of kept.piece.gives;
        rna = far.rna ++ command_of kept.piece.gives;
        kept = kept.keeps ∙ ap (λ l. l ++ map held (item_of kept.piece.gives)) far.kept ∙ sym (map-append held far.read (item_of kept.piece.gives));
        taken = goes_on old mid new far.rna (command_of kept.piece.gives) far.taken kept.taken;
        few = omega (arith, length-append far.rna (command_of kept.piece.gives), one_command kept.piece.gives, far.few, kept.behind);
        opened = omega (arith, far.opened, kept.behind);
        goes_on = λ reading reads.
            let same : drop next d ≡ drop kept.piece.takes (drop place d) = ap (λ n. drop n d) kept.behind ∙ sym (drop-drop kept.piece.takes place d) in
            let behind : ReadsFrom table (open_after table groups kept.piece.gives) (drop kept.piece.takes (drop place d)) reading =
            subst (λ l. ReadsFrom table (open_after table groups kept.piece.gives) l reading) same (subst (λ n. ReadsFrom table n (drop next d) reading) kept.opens reads) in
            subst (λ r. ReadsFrom table 0 (drop start d) r) (prefixed_twice far.read (item_of kept.piece.gives) far.rna (command_of kept.piece.gives) reading)
            (far.goes_on (prefixed (item_of kept.piece.gives) (command_of kept.piece.gives) reading)
            (reads_more table fits groups (drop place d) kept.piece reading kept.is (not_end kept.piece.gives kept.more) behind));
      }

  -- the end
  pub read_to_end : (next opened : ℕ) (longer : List Item) → ReadSoFar table held follows d start place groups items old mid
      → PieceIsKept table held follows d place next groups opened items longer mid new false
      → (read : List Item) × (rna : List (List Base)) × ReadsFrom table 0 (drop start d) (Read read rna (drop next d)) × (longer ≡ map held read) × follows old rna new
  read_to_end next opened longer far kept =
      let end : kept.piece.gives ≡ GivesEnd = the_end kept.piece.gives kept.more in
      let same : drop kept.piece.takes (drop place d) ≡ drop next d = drop-drop kept.piece.takes place d ∙ ap (λ n. drop n d) (sym kept.behind) in
      let none : item_of kept.piece.gives ≡ [] = ap item_of end in
      let quiet : command_of kept.piece.gives ≡ [] = ap command_of end in (
        far.read,
        far.rna,
        subst (λ l. ReadsFrom table 0 (drop start d) (Read far.read far.rna l)) same
            (subst (λ l. ReadsFrom table 0 (drop start d) (Read far.read l (drop kept.piece.takes (drop place d)))) (append-nil far.rna)
            (subst (λ l. ReadsFrom table 0 (drop start d) (Read l (far.rna ++ []) (drop kept.piece.takes (drop place d)))) (append-nil far.read)
            (far.goes_on (Read [] [] (drop kept.piece.takes (drop place d))) (reads_end table fits groups (drop place d) kept.piece kept.is end)))),
        kept.keeps ∙ ap (λ l. items ++ map held l) none ∙ append-nil items ∙ far.kept,
        subst (λ l. follows old l new) (append-nil far.rna) (goes_on old mid new far.rna [] far.taken (subst (λ l. follows mid l new) quiet kept.taken)),
      )

  -- where no piece fits
  pub read_out : ReadSoFar table held follows d start place groups items old mid → table.piece_of (nat_lt 0 groups) (drop place d) ≡ None → follows mid [] new
      → RanOutTaking (ReadsFrom table 0) follows old new (drop start d)
  read_out far none quiet = record {
    rna = far.rna ++ [];
    ran_out = far.goes_on (RanOut []) (reads_none table fits groups (drop place d) none);
    taken = goes_on old mid new far.rna [] far.taken quiet;
  }

  -- where it stops before
  pub read_in_part : ReadSoFar table held follows d start place groups items old mid → StopsAtPiece table follows within d place groups mid new
      → StandsWithin (ReadsFrom table 0) within old new (drop start d)
  read_in_part far stops =
      elim stops [
        | inl quiet ↦
            let rest = has_reading table fits groups (drop place d) in
            let all : within old ((far.rna ++ []) ++ rna_in rest.0) new = starts old new (far.rna ++ []) (rna_in rest.0) (goes_on old mid new far.rna [] far.taken quiet) in
            let same : (far.rna ++ []) ++ rna_in rest.0 ≡ rna_in (prefixed far.read far.rna rest.0) = ap (λ l. l ++ rna_in rest.0) (append-nil far.rna) ∙ sym (rna_of_prefixed far.read far.rna rest.0) in
            record {
              reading = prefixed far.read far.rna rest.0;
              is = far.goes_on rest.0 rest.1;
              stands = subst (λ l. within old l new) same all;
            }
        | inr part ↦
            let piece : Piece Item = record { takes = part.0; gives = GivesCommand part.1 } in
            let rest = has_reading table fits (open_after table groups piece.gives) (drop part.0 (drop place d)) in
            let here = reads_more table fits groups (drop place d) piece rest.0 part.2 refl rest.1 in
            let reading : Reading Item = prefixed [] (part.1 ∷ []) rest.0 in
            let all : within old (far.rna ++ ((part.1 ∷ []) ++ rna_in rest.0)) new =
            goes_within old mid new far.rna ((part.1 ∷ []) ++ rna_in rest.0) far.taken (widens mid new (part.1 ∷ []) (rna_in rest.0) part.3) in
            let same : far.rna ++ ((part.1 ∷ []) ++ rna_in rest.0) ≡ rna_in (prefixed far.read far.rna reading) =
            ap (λ l. far.rna ++ l) (sym (rna_of_prefixed [] (part.1 ∷ []) rest.0)) ∙ sym (rna_of_prefixed far.read far.rna reading) in
            record {
              reading = prefixed far.read far.rna reading;
              is = far.goes_on reading here;
              stands = subst (λ l. within old l new) same all;
            }
      ]
