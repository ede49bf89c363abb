-- Sums, a factor at a time.
use Rattle.std.proofs.Common.{◌≡◌, ℕ, zero, suc, ◌<◌, ◌≤◌, Bool, Some, None, Ok, Err, List, [], ◌∷◌, ◌++◌, length, arith, refl, sym, ap, ◌∙◌}
use Rattle.std.specs.Prelude.{if◌then◌else◌}
use Rattle.source_items.specs.declared.lines.Factor.{Factor}
use Rattle.source_tokens.specs.declared.words.Token.{Token}
use Rattle.source_text.specs.declared.faults.Faults.{Faults}
use Rattle.source_text.specs.declared.sums.OneFactor.{OneFactor}
use Rattle.source_text.specs.Names.{Names}
use Rattle.source_text.specs.Reading.{both_faults}
use Rattle.source_text.specs.Sums.{factor, joint, one_sum, sum, sum_on}

-- the reading of a sum has come to these products
pub record SumFound (names : Names) (line : ℕ) (tokens : List Token) (products : List (List Factor)) (last : List Factor) (faults : Faults) (rest : List Token) : Type 0 where
  pub most : ℕ
  pub room : length rest < most
  pub goes : sum names line tokens ≡ sum_on names line most products last faults rest

pub sum_bad : (names : Names) (line : ℕ) (tokens : List Token) (left : ℕ) → Err left ≡ factor names line tokens → Err left ≡ sum names line tokens
unfolding sum
sum_bad names line tokens left e = rw (← e) refl

pub sum_first : (names : Names) (line : ℕ) (tokens rest : List Token) (first : OneFactor) → Ok (first, rest) ≡ factor names line tokens
    → SumFound names line tokens [] (first.factor ∷ []) first.faults rest
unfolding sum
sum_first names line tokens rest first e = record { most = suc (length rest); room = omega arith; goes = rw (← e) refl }

turn : (names : Names) (line most : ℕ) (products : List (List Factor)) (last : List Factor) (faults : Faults) (rest behind left : List Token) (plus : Bool) (next : OneFactor)
    → Some (plus, behind) ≡ joint rest → Ok (next, left) ≡ factor names line behind
    → sum_on names line (suc most) products last faults rest
    ≡ sum_on names line most (if plus then products ++ last ∷ [] else products) ((if plus then [] else last) ++ next.factor ∷ []) (both_faults faults next.faults) left
unfolding sum_on
turn names line most products last faults rest behind left plus next found e = rw (← found, ← e) refl

turn_bad : (names : Names) (line most : ℕ) (products : List (List Factor)) (last : List Factor) (faults : Faults) (rest behind : List Token) (plus : Bool) (left : ℕ)
    → Some (plus, behind) ≡ joint rest → Err left ≡ factor names line behind → sum_on names line (suc most) products last faults rest ≡ Err left
unfolding sum_on
turn_bad names line most products last faults rest behind plus left found e = rw (← found, ← e) refl

turn_end : (names : Names) (line most : ℕ) (products : List (List Factor)) (last : List Factor) (faults : Faults) (rest : List Token)
    → None ≡ joint rest → sum_on names line (suc most) products last faults rest ≡ Ok (one_sum (products ++ last ∷ []) faults, rest)
unfolding sum_on
turn_end names line most products last faults rest none = rw (← none) refl

-- a number above another is a successor
some_most : (n most : ℕ) → n < most → (less : ℕ) × (most ≡ suc less) × (n ≤ less)
some_most n zero room = absurd (omega arith)
some_most n (suc less) room = (less, refl, omega arith)

pub sum_more : (names : Names) (line : ℕ) (tokens : List Token) (products now : List (List Factor)) (last product new : List Factor) (faults both : Faults) (rest behind left : List Token) (plus : Bool) (next : OneFactor)
    → Some (plus, behind) ≡ joint rest → Ok (next, left) ≡ factor names line behind → length left < length rest
    → now ≡ (if plus then products ++ last ∷ [] else products) → product ≡ (if plus then [] else last) → new ≡ product ++ next.factor ∷ [] → both ≡ both_faults faults next.faults
    → SumFound names line tokens products last faults rest → SumFound names line tokens now new both left
sum_more names line tokens products now last product new faults both rest behind left plus next found e fewer a b c d before =
    let m = some_most (length rest) before.most before.room in
    record {
      most = m.0;
      room = omega (arith, m.2);
      goes =
          before.goes
          ∙ ap (λ n. sum_on names line n products last faults rest) m.1
          ∙ turn names line m.0 products last faults rest behind left plus next found e
          ∙ ap (λ p. sum_on names line m.0 p ((if plus then [] else last) ++ next.factor ∷ []) (both_faults faults next.faults) left) (sym a)
          ∙ ap (λ l. sum_on names line m.0 now (l ++ next.factor ∷ []) (both_faults faults next.faults) left) (sym b)
          ∙ ap (λ l. sum_on names line m.0 now l (both_faults faults next.faults) left) (sym c)
          ∙ ap (λ f. sum_on names line m.0 now new f left) (sym d);
    }

pub sum_bad_turn : (names : Names) (line : ℕ) (tokens : List Token) (products : List (List Factor)) (last : List Factor) (faults : Faults) (rest behind : List Token) (plus : Bool) (left : ℕ)
    → Some (plus, behind) ≡ joint rest → Err left ≡ factor names line behind → SumFound names line tokens products last faults rest → Err left ≡ sum names line tokens
sum_bad_turn names line tokens products last faults rest behind plus left found e before =
    let m = some_most (length rest) before.most before.room in
    sym (before.goes ∙ ap (λ n. sum_on names line n products last faults rest) m.1 ∙ turn_bad names line m.0 products last faults rest behind plus left found e)

pub sum_end : (names : Names) (line : ℕ) (tokens : List Token) (products : List (List Factor)) (last : List Factor) (faults : Faults) (rest : List Token)
    → None ≡ joint rest → SumFound names line tokens products last faults rest → Ok (one_sum (products ++ last ∷ []) faults, rest) ≡ sum names line tokens
sum_end names line tokens products last faults rest none before =
    let m = some_most (length rest) before.most before.room in
    sym (before.goes ∙ ap (λ n. sum_on names line n products last faults rest) m.1 ∙ turn_end names line m.0 products last faults rest none)
