-- RNA as text, one command a line, and a taker that writes it.
use Rattle.std.specs.Prelude.{◌≡◌, ℕ, ◌+◌, ◌≤◌, Option, List, [], ◌∷◌, ◌++◌, length, map, flat_map, refl}
use Rattle.std.proofs.Common.{arith, ap, sym, ◌∙◌, length-append, append-nil}
use Rattle.std.proofs.lemmas.List.{append_assoc}
use Rattle.std.proofs.lemmas.Grind.{flat_map-append}
use Rattle.fuun_base.specs.declared.letters.Base.{Base}
use Rattle.fuun_base.specs.Letter.{letter_of}
use Rattle.fuun_io.specs.Written.{appended, PutsFront}
use Rattle.fuun_io.proofs.WrittenLemmas.{appended-appended, appended-nil}

-- a command as a line: its letters and a line feed
abbrev pub rna_line : List Base → List ℕ
rna_line command = map letter_of command ++ 10 ∷ []

-- commands as lines
abbrev pub rna_lines : List (List Base) → List ℕ
rna_lines commands = flat_map rna_line commands

-- the line of the first command, and no bytes where there is no command
abbrev pub first_line : List (List Base) → List ℕ
first_line [] = []
first_line (command ∷ commands) = rna_line command

-- a writer of lines: which loan of a sink it holds, the bytes that the sink tells, and how many commands were taken
pub record Writer : Type 0 where
  pub loan : ℕ
  pub told : Option (List ℕ)
  pub count : ℕ

-- the lines of these commands were written, to the same sink
pub record LinesPut (a : Writer) (commands : List (List Base)) (b : Writer) : Type 0 where
  pub same : b.loan ≡ a.loan
  pub counted : b.count ≡ a.count + length commands
  pub put : b.told ≡ appended a.told (rna_lines commands)

-- the lines of a front of these commands were written, and then a part of the next line, maybe none of it
pub record LinesPutInPart (a : Writer) (commands : List (List Base)) (b : Writer) : Type 0 where
  pub front : List (List Base)
  pub rest : List (List Base)
  pub is : commands ≡ front ++ rest
  pub part : List ℕ
  pub missing : List ℕ
  pub next : first_line rest ≡ part ++ missing
  pub same : b.loan ≡ a.loan
  pub counted : b.count ≡ a.count + length front
  pub put : b.told ≡ appended a.told (rna_lines front ++ part)

-- what stands within commands wrote a front of their lines
abbrev pub PartIsFront : Type 0
PartIsFront = (a b : Writer) (commands : List (List Base)) → LinesPutInPart a commands b → PutsFront a.told b.told (rna_lines commands)

-- lines behind lines
put_twice : (told : Option (List ℕ)) (x y : List (List Base)) → appended (appended told (rna_lines x)) (rna_lines y) ≡ appended told (rna_lines (x ++ y))
put_twice told x y = appended-appended told (rna_lines x) (rna_lines y) ∙ ap (appended told) (sym (flat_map-append rna_line x y))

-- the first line, with further commands behind
next_of_more : (rest y : List (List Base)) (part missing : List ℕ) → first_line rest ≡ part ++ missing → (more : List ℕ) × (first_line (rest ++ y) ≡ part ++ more)
next_of_more [] y [] missing e = (first_line y, refl)
next_of_more [] y (byte ∷ part) missing e = absurd (cc)
next_of_more (command ∷ rest) y part missing e = (missing, e)

pub lines_stays : (a : Writer) → LinesPut a [] a
lines_stays a = record { same = refl; counted = omega arith; put = sym (appended-nil a.told) }

pub lines_goes_on : (a b c : Writer) (x y : List (List Base)) → LinesPut a x b → LinesPut b y c → LinesPut a (x ++ y) c
lines_goes_on a b c x y p q =
    let m = p.counted in
    let n = q.counted in
    record {
      same = q.same ∙ p.same;
      counted = omega (arith, length-append x y);
      put = q.put ∙ ap (λ told. appended told (rna_lines y)) p.put ∙ put_twice a.told x y;
    }

pub lines_starts : (a b : Writer) (x y : List (List Base)) → LinesPut a x b → LinesPutInPart a (x ++ y) b
lines_starts a b x y p = record {
  front = x;
  rest = y;
  is = refl;
  part = [];
  missing = first_line y;
  next = refl;
  same = p.same;
  counted = p.counted;
  put = p.put ∙ ap (appended a.told) (sym (append-nil (rna_lines x)));
}

pub lines_goes_within : (a b c : Writer) (x y : List (List Base)) → LinesPut a x b → LinesPutInPart b y c → LinesPutInPart a (x ++ y) c
lines_goes_within a b c x y p w =
    let m = p.counted in
    let n = w.counted in
    record {
      front = x ++ w.front;
      rest = w.rest;
      is = ap (λ l. x ++ l) w.is ∙ sym (append_assoc x w.front w.rest);
      part = w.part;
      missing = w.missing;
      next = w.next;
      same = w.same ∙ p.same;
      counted = omega (arith, length-append x w.front);
      put = w.put
          ∙ ap (λ told. appended told (rna_lines w.front ++ w.part)) p.put
          ∙ appended-appended a.told (rna_lines x) (rna_lines w.front ++ w.part)
          ∙ ap (appended a.told) (sym (append_assoc (rna_lines x) (rna_lines w.front) w.part) ∙ ap (λ l. l ++ w.part) (sym (flat_map-append rna_line x w.front)));
    }

pub lines_widens : (a b : Writer) (x y : List (List Base)) → LinesPutInPart a x b → LinesPutInPart a (x ++ y) b
lines_widens a b x y w =
    let more = next_of_more w.rest y w.part w.missing w.next in
    record {
      front = w.front;
      rest = w.rest ++ y;
      is = ap (λ l. l ++ y) w.is ∙ append_assoc w.front w.rest y;
      part = w.part;
      missing = more.0;
      next = more.1;
      same = w.same;
      counted = w.counted;
      put = w.put;
    }

pub lines_counts_within : (a b : Writer) (x : List (List Base)) → LinesPutInPart a x b → (a.count ≤ b.count) × (b.count ≤ a.count + length x)
lines_counts_within a b x w =
    let total = ap length w.is in
    let n = w.counted in
    (omega arith, omega (arith, length-append w.front w.rest))
