-- Lengths that are found for lines as they are kept are those of the lines themselves, held.
use Rattle.std.proofs.Common.{◌≡◌, ℕ, ◌^◌, ◌≤◌, Bool, true, false, List, [], ◌∷◌, inl, inr, arith, refl, sym, ap, ◌∙◌, subst}
use Rattle.std.proofs.lemmas.Bool.{cases_lt}
use Rattle.dna_items.specs.Held.{held}
use Rattle.source_items.specs.declared.lines.Line.{Line}
use Rattle.source_items.specs.Held.{AreHeld, IsHeld}
use Rattle.source_items.specs.Lines.{are_small, line_len}
use Rattle.source_code.specs.Kept.{AreFound, IsFound}
use Rattle.source_code.specs.Lengths.{IsBig, IsLength, Settles}
use Rattle.source_code.proofs.AlikeLines.{AreAlike, len_same, line_alike}
use Rattle.source_code.proofs.Existence.{IsLeast, has_least, least_is_length, length_is_least}
use Rattle.source_items.proofs.HeldLemmas.{Alike, alike_small, both_big, held_alike}
use Rattle.source_code.proofs.Rising.{line_small}

-- two lines, with lines behind them, whose values are alike
record AreTwins (line twin : Line) (behind later : List ℕ) : Type 0 where
  small : (own other : ℕ) → Alike own other → are_small own behind line ≡ are_small other later twin
  lens : (own other : ℕ) → Alike own other → are_small own behind line ≡ true → Alike (line_len own behind line) (line_len other later twin)

turned : (line twin : Line) (behind later : List ℕ) → AreTwins line twin behind later → AreTwins twin line later behind
turned line twin behind later twins = record {
  small = λ own other alike. sym (twins.small other own (sym alike));
  lens = λ own other alike small. sym (twins.lens other own (sym alike) (twins.small other own (sym alike) ∙ small));
}

-- where one is small at its length, the other is, and the lengths are alike
record AreTwinsAt (line twin : Line) (behind later : List ℕ) (own other : ℕ) : Type 0 where
  small : are_small other later twin ≡ true
  alike : Alike own other

twin_lengths : (line twin : Line) (behind later : List ℕ) (own other : ℕ) → AreTwins line twin behind later → IsLeast behind line own → IsLeast later twin other
    → are_small own behind line ≡ true → AreTwinsAt line twin behind later own other
twin_lengths line twin behind later own other twins is is_other small =
    elim (cases_lt own (2 ^ 63)) as (λ _. AreTwinsAt line twin behind later own other) [
      | inl few ↦
          let small_twin : are_small own later twin ≡ true = sym (twins.small own own refl) ∙ small in
          let len : line_len own behind line ≡ line_len own later twin = alike_small (line_len own behind line) (line_len own later twin) (twins.lens own own refl small) (omega (arith, few, is.here)) in
          let below : other ≤ own = is_other.least own (omega (arith, len, is.here)) in
          let small_other : are_small other behind line ≡ true = line_small behind other own below line small in
          let back : line_len other later twin ≡ line_len other behind line =
          alike_small (line_len other later twin) (line_len other behind line) (sym (twins.lens other other refl small_other)) (omega (arith, below, few, is_other.here)) in
          let above : own ≤ other = is.least other (omega (arith, back, is_other.here)) in
          let same : own ≡ other = omega (arith, above, below) in
          record { small = subst (λ n. are_small n later twin ≡ true) same small_twin; alike = ap held same }
      | inr many ↦ elim (cases_lt other (2 ^ 63)) as (λ _. AreTwinsAt line twin behind later own other) [
        | inl few ↦
            let small_here : are_small other behind line ≡ true = line_small behind other own (omega (arith, few, many)) line small in
            let back : line_len other later twin ≡ line_len other behind line =
            alike_small (line_len other later twin) (line_len other behind line) (sym (twins.lens other other refl small_here)) (omega (arith, few, is_other.here)) in
            let above : own ≤ other = is.least other (omega (arith, back, is_other.here)) in
            absurd (omega (arith, above, many, few))
        | inr both ↦
            let alike : Alike own other = both_big own other many both in
            record { small = sym (twins.small own other alike) ∙ small; alike = alike }
      ]
    ]

-- a line and what it is kept as are twins
kept_twins : (limit : ℕ) (line kept : Line) (behind later : List ℕ) → IsHeld limit line kept → AreAlike behind later → AreTwins line kept behind later
kept_twins limit line kept behind later is alikes =
    elim is as (λ _. AreTwins line kept behind later) [
      | inl same ↦ subst (λ l. AreTwins line l behind later) (sym same) (record {
        small = λ own other alike. line_alike own other behind later alike alikes line;
        lens = λ own other alike small. ap held (len_same own other behind later alike alikes line small);
      })
      | inr long ↦ record {
        small = λ own other alike. line_alike own other behind later alike alikes line ∙ long.small other later;
        lens = λ own other alike small. ap held (len_same own other behind later alike alikes line small) ∙ long.lens other later;
      }
    ]

-- the lengths of lines that are kept, by what was found
pub record AreKept (lines : List Line) (found lengths : List ℕ) : Type 0 where
  pub settles : Settles lines lengths
  pub alike : AreAlike lengths found

pub one_kept : (limit : ℕ) (line kept : Line) (behind later : List ℕ) (found : ℕ) → IsHeld limit line kept → AreAlike behind later → IsFound later kept found
    → (own : ℕ) × IsLength behind line own × (are_small own behind line ≡ true) × Alike own found
one_kept limit line kept behind later found is alikes here =
    let own = has_least behind line in
    let twins = turned line kept behind later (kept_twins limit line kept behind later is alikes) in
    let at = twin_lengths kept line later behind here.own own.0 twins (length_is_least later kept here.own here.is) own.1 here.small in
    (own.0, least_is_length behind line own.0 own.1, at.small, sym at.alike ∙ sym (held_alike found here.own here.as_held))

pub all_kept : (limit : ℕ) (lines kept : List Line) (found : List ℕ) → AreHeld limit lines kept → AreFound kept found → (lengths : List ℕ) × AreKept lines found lengths
all_kept limit [] [] [] are is = ([], record { settles = record { are = tt; small = tt }; alike = tt })
all_kept limit [] [] (n ∷ found) are is = absurd is
all_kept limit [] (one ∷ kept) found are is = absurd are
all_kept limit (line ∷ lines) [] found are is = absurd are
all_kept limit (line ∷ lines) (one ∷ kept) [] are is = absurd is
all_kept limit (line ∷ lines) (one ∷ kept) (n ∷ found) are is =
    let later = all_kept limit lines kept found are.1 is.1 in
    let here = one_kept limit line one later.0 found n are.0 later.1.alike is.0 in (
      here.0 ∷ later.0,
      record {
        settles = record { are = (here.1, later.1.settles.are); small = (here.2, later.1.settles.small) };
        alike = (here.3, later.1.alike);
      },
    )

big_unless : (a : Bool) → (a ≡ true → ⊥) → a ≡ false
big_unless true is_not = absurd (is_not refl)
big_unless false is_not = refl

-- a kept line with a great value is one of a line with a great value
pub big_kept : (limit : ℕ) (line kept : Line) (behind later : List ℕ) → IsHeld limit line kept → AreAlike behind later → IsBig later kept → IsBig behind line
big_kept limit line kept behind later is alikes here =
    let own = has_least behind line in
    record {
      own = own.0;
      is = least_is_length behind line own.0 own.1;
      big = big_unless (are_small own.0 behind line) (λ small.
          let at = twin_lengths line kept behind later own.0 here.own (kept_twins limit line kept behind later is alikes) own.1 (length_is_least later kept here.own here.is) small in
          let clash : true ≡ false = sym at.small ∙ here.big in
          cc);
    }
