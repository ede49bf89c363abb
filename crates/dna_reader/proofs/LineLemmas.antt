-- Lines that are cut off.
use Rattle.std.proofs.Common.{◌≡◌, ℕ, List, [], ◌∷◌, ◌++◌, arith, refl, ap, sym, ◌∙◌}
use Rattle.std.proofs.lemmas.List.{append_assoc}
use Rattle.std.proofs.lemmas.Grind.{flat_map-append}
use Rattle.fuun_base.specs.declared.letters.Base.{Base}
use Rattle.fuun_io.specs.Written.{PutsFront}
use Rattle.dna_reader.specs.RnaLines.{rna_line, rna_lines, first_line, Writer, LinesPutInPart, PartIsFront}

-- a line cut off
pub line_cut_off : (a b : Writer) (command : List Base) → b.loan ≡ a.loan → b.count ≡ a.count → PutsFront a.told b.told (rna_line command) → LinesPutInPart a (command ∷ []) b
line_cut_off a b command same none p = record {
  front = [];
  rest = command ∷ [];
  is = refl;
  part = p.front;
  missing = p.rest;
  next = p.whole;
  same = same;
  counted = omega arith;
  put = p.put;
}

-- the lines of what is left begin with the next line
lines_left : (rest : List (List Base)) (part missing : List ℕ) → first_line rest ≡ part ++ missing → (more : List ℕ) × (rna_lines rest ≡ part ++ more)
lines_left [] part missing e = (missing, e)
lines_left (command ∷ rest) part missing e = (missing ++ rna_lines rest, ap (λ l. l ++ rna_lines rest) e ∙ append_assoc part missing (rna_lines rest))

pub part_is_front : PartIsFront
part_is_front a b commands w =
    let left = lines_left w.rest w.part w.missing w.next in
    record {
      front = rna_lines w.front ++ w.part;
      rest = left.0;
      whole = ap rna_lines w.is
          ∙ flat_map-append rna_line w.front w.rest
          ∙ ap (λ l. rna_lines w.front ++ l) left.1
          ∙ sym (append_assoc (rna_lines w.front) w.part left.0);
      put = w.put;
    }
