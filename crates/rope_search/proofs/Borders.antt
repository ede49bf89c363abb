-- Borders of a needle, and what comes next.
use Rattle.std.proofs.Common.{◌≡◌, ℕ, ◌+◌, ◌-◌, ◌<◌, ◌≤◌, List, [], ◌∷◌, ◌++◌, length, get_or, arith, refl, sym, ap, ◌∙◌, subst, inl, inr}
use Rattle.std.proofs.Math.ListN.{set}
use Rattle.std.proofs.lemmas.Bool.{cases_lt, cases_order}
use Rattle.std.proofs.lemmas.List.{get_or-set_same, get_or-set_other, get_or_append_left, get_or_push, length_push}
use Rattle.fuun_base.specs.declared.letters.Base.{Base}
use Rattle.fuun_base.specs.declared.letters.Base.TheVariants.{I, C, F, P}
use Rattle.rope_search.specs.Automaton.{Ends, IsNext, IsBorder, column, IsRow, AreRows}

-- what ends a border with a base ends the whole with it
pub ends_more : (s : List Base) (found back : ℕ) (base : Base) (len : ℕ) → 0 < found → IsBorder s found back → Ends s back base len → Ends s found base len
ends_more s found back base len some border ends = record {
  most = omega (arith, border.most, ends.most);
  before = λ j k lt same.
      let low : found ≤ j + back = omega (arith, ends.most) in
      let near : ℕ = j + back - found in
      let here : near < back = omega arith in
      let there : j + back ≡ found + near = omega arith in
      let moved : near + len ≡ back + 1 + k = omega arith in
      border.fits j near lt there ∙ ends.before near k here moved;
  last = ends.last;
}

-- and what ends the whole with a base, but for all of it, ends a border with it
pub ends_less : (s : List Base) (found back : ℕ) (base : Base) (len : ℕ) → 0 < found → IsBorder s found back → len ≤ found → Ends s found base len → Ends s back base len
ends_less s found back base len some border part ends =
    elim (cases_lt (back + 1) len) [
      | inl past ↦
          let more : ℕ = len - 1 in
          absurd (border.longest more (omega arith) (omega arith) (λ j k lt same. ends.before j k lt (omega arith)))
      | inr within ↦ record {
        most = within;
        before = λ j k lt same.
            let far : ℕ = j + (found - back) in
            let low : back ≤ found = omega (arith, border.most) in
            let here : far < found = omega arith in
            let there : far + back ≡ found + j = omega arith in
            let moved : far + len ≡ found + 1 + k = omega arith in
            sym (border.fits far j here there) ∙ ends.before far k here moved;
        last = ends.last;
      }
    ]

-- the base that goes on in the needle
pub next_on : (s : List Base) (found : ℕ) → IsNext s found (get_or s found I) (found + 1)
next_on s found = record {
  ends = record {
    most = omega arith;
    before = λ j k lt same. let is : j ≡ k = omega arith in ap (λ n. get_or s n I) is;
    last = λ k same. let is : found ≡ k = omega arith in ap (λ n. get_or s n I) is;
  };
  longest = λ len more ends. absurd (omega (arith, ends.most));
}

-- another base leads where it leads from the border
pub next_of_border : (s : List Base) (found back : ℕ) (base : Base) (next : ℕ) → 0 < found → IsBorder s found back → (base ≡ get_or s found I → ⊥) → IsNext s back base next → IsNext s found base next
next_of_border s found back base next some border other is = record {
  ends = ends_more s found back base next some border is.ends;
  longest = λ len more ends.
      elim (cases_lt found len) [
        | inl past ↦ let all : found + 1 ≡ len = omega (arith, ends.most) in other (ends.last found all)
        | inr part ↦ is.longest len more (ends_less s found back base len some border part ends)
      ];
}

-- the next border
pub border_next : (s : List Base) (found back next : ℕ) → 0 < found → IsBorder s found back → IsNext s back (get_or s found I) next → IsBorder s (found + 1) next
border_next s found back next some border is =
    let ends : Ends s found (get_or s found I) next = ends_more s found back (get_or s found I) next some border is.ends in
    record {
      most = omega (arith, border.most, is.ends.most);
      fits = λ j k lt same.
          elim (cases_lt j found) [
            | inl before ↦ ends.before j k before same
            | inr not_before ↦
                let here : j ≡ found = omega arith in
                ap (λ n. get_or s n I) here ∙ ends.last k (omega arith)
          ];
      longest = λ more past part fits.
          is.longest more past (ends_less s found back (get_or s found I) more some border (omega arith) (record {
            most = omega arith;
            before = λ j k lt same. fits j k (omega arith) same;
            last = λ k same. fits found k (omega arith) (omega arith);
          }));
    }

-- with nothing found, another base finds nothing
pub next_of_none : (s : List Base) (base : Base) → (base ≡ get_or s 0 I → ⊥) → IsNext s 0 base 0
next_of_none s base other = record {
  ends = record {
    most = omega arith;
    before = λ j k lt same. absurd (omega arith);
    last = λ k same. absurd (omega arith);
  };
  longest = λ len more ends. let one : 0 + 1 ≡ len = omega (arith, ends.most) in other (ends.last 0 one);
}

-- nothing and one base have no border
pub border_of_few : (s : List Base) (len : ℕ) → len ≤ 1 → IsBorder s len 0
border_of_few s len few = record {
  most = omega arith;
  fits = λ j k lt same. absurd (omega arith);
  longest = λ more past part fits. absurd (omega arith);
}

-- bases of one column are equal
pub same_column : (a b : Base) → column a ≡ column b → a ≡ b
same_column I I same = refl
same_column I C same = absurd (omega arith)
same_column I F same = absurd (omega arith)
same_column I P same = absurd (omega arith)
same_column C I same = absurd (omega arith)
same_column C C same = refl
same_column C F same = absurd (omega arith)
same_column C P same = absurd (omega arith)
same_column F I same = absurd (omega arith)
same_column F C same = absurd (omega arith)
same_column F F same = refl
same_column F P same = absurd (omega arith)
same_column P I same = absurd (omega arith)
same_column P C same = absurd (omega arith)
same_column P F same = absurd (omega arith)
same_column P P same = refl

-- the next row: that of the border, with the base that goes on
pub row_next : (s : List Base) (found : ℕ) (row : List ℕ) → column (get_or s found I) < length row → ((base : Base) → (base ≡ get_or s found I → ⊥) → IsNext s found base (get_or row (column base) 0)) → IsRow s found (set row (column (get_or s found I)) (found + 1))
row_next s found row within others base =
    let on : Base = get_or s found I in
    elim (cases_order (column base) (column on)) [
      | inl same ↦
          let is : base ≡ on = same_column base on same in
          subst (λ b. IsNext s found b (get_or (set row (column on) (found + 1)) (column b) 0)) (sym is)
          (subst (IsNext s found on) (sym (get_or-set_same row (column on) (found + 1) 0 within)) (next_on s found))
      | inr (inl less) ↦
          let other : column base ≡ column on → ⊥ = λ same. omega arith in
          subst (IsNext s found base) (sym (get_or-set_other row (column on) (column base) (found + 1) 0 other)) (others base (λ is. other (ap column is)))
      | inr (inr more) ↦
          let other : column base ≡ column on → ⊥ = λ same. omega arith in
          subst (IsNext s found base) (sym (get_or-set_other row (column on) (column base) (found + 1) 0 other)) (others base (λ is. other (ap column is)))
    ]

pub rows_more : (s : List Base) (rows : List (List ℕ)) (row : List ℕ) → AreRows s rows → IsRow s (length rows) row → AreRows s (rows ++ row ∷ [])
rows_more s rows row are is found lt =
    elim (cases_lt found (length rows)) [
      | inl before ↦ subst (IsRow s found) (sym (get_or_append_left rows (row ∷ []) [] found before)) (are found before)
      | inr late ↦
          let here : length rows ≡ found = omega (arith, length_push rows row) in
          subst (IsRow s found) (sym (get_or_push rows row [] found here)) (subst (λ n. IsRow s n row) here is)
    ]
