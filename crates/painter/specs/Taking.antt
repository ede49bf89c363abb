-- What holds of a painter as a taker of RNA.
use Rattle.std.specs.Prelude.{ℕ, ◌+◌, ◌≤◌, List, [], ◌∷◌, ◌++◌, length, refl}
use Rattle.std.proofs.Common.{arith, ap, sym, subst, ◌∙◌, length-append}
use Rattle.std.proofs.lemmas.List.{append_assoc}
use Rattle.fuun_base.specs.declared.letters.Base.{Base}
use Rattle.rna_code.specs.declared.profile.Profile.{Profile}
use Rattle.rna_code.specs.Commands.{act_of}
use Rattle.painter.specs.Picture.{Picture, Table, Builds}
use Rattle.painter.specs.Painting.{Painting, Paints, PaintsFront}

-- commands after commands
pub builds_append : (side most : ℕ) (table : Table) (first last : List (List Base)) (p q r : Picture) → Builds side most table first p q → Builds side most table last q r → Builds side most table (first ++ last) p r
builds_append side most table [] last p q r a b =
    let P : Picture → Type 0 = λ m. Builds side most table last m r in
    subst P a b
builds_append side most table (command ∷ rest) last p q r a b = (a.0, (a.1.0, builds_append side most table rest last a.0 q r a.1.1 b))

pub paints_stays : (side most : ℕ) (a : Painting) → Paints side most a [] a
paints_stays side most a = record { profile = refl; builds = refl; counted = omega arith }

pub paints_goes_on : (side most : ℕ) (a b c : Painting) (x y : List (List Base)) → Paints side most a x b → Paints side most b y c → Paints side most a (x ++ y) c
paints_goes_on side most a b c x y p q =
    let P : Profile → Type 0 = λ profile. Builds side most (act_of profile) y b.picture c.picture in
    let m = p.counted in
    let n = q.counted in
    record {
      profile = q.profile ∙ p.profile;
      builds = builds_append side most (act_of a.profile) x y a.picture b.picture c.picture p.builds (subst P p.profile q.builds);
      counted = omega (arith, length-append x y);
    }

pub paints_starts : (side most : ℕ) (a b : Painting) (x y : List (List Base)) → Paints side most a x b → PaintsFront side most a (x ++ y) b
paints_starts side most a b x y p = record { front = x; rest = y; is = refl; paints = p }

pub paints_goes_within : (side most : ℕ) (a b c : Painting) (x y : List (List Base)) → Paints side most a x b → PaintsFront side most b y c → PaintsFront side most a (x ++ y) c
paints_goes_within side most a b c x y p w = record {
  front = x ++ w.front;
  rest = w.rest;
  is = ap (λ l. x ++ l) w.is ∙ sym (append_assoc x w.front w.rest);
  paints = paints_goes_on side most a b c x w.front p w.paints;
}

pub paints_widens : (side most : ℕ) (a b : Painting) (x y : List (List Base)) → PaintsFront side most a x b → PaintsFront side most a (x ++ y) b
paints_widens side most a b x y w = record {
  front = w.front;
  rest = w.rest ++ y;
  is = ap (λ l. l ++ y) w.is ∙ append_assoc w.front w.rest y;
  paints = w.paints;
}

pub paints_counts_within : (side most : ℕ) (a b : Painting) (x : List (List Base)) → PaintsFront side most a x b → (a.taken ≤ b.taken) × (b.taken ≤ a.taken + length x)
paints_counts_within side most a b x w =
    let total = ap length w.is in
    let n = w.paints.counted in
    (omega arith, omega (arith, length-append w.front w.rest))
