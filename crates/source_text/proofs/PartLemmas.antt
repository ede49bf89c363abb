-- Parts, a token at a time.
use Rattle.std.proofs.Common.{◌≡◌, ℕ, zero, suc, ◌<◌, ◌≤◌, true, false, Ok, Err, List, [], ◌∷◌, length, arith, refl, ap, ◌∙◌}
use Rattle.source_tokens.specs.declared.words.Token.{Token}
use Rattle.source_text.specs.declared.faults.Counted.{Counted}
use Rattle.source_text.specs.declared.faults.Faults.{Faults}
use Rattle.source_text.specs.declared.parts.Found.{Found}
use Rattle.source_text.specs.declared.pieces.Item.TheVariants.{Group, Skip}
use Rattle.source_text.specs.declared.signs.Sign.TheVariants as sign
use Rattle.source_text.specs.declared.sums.OneFactor.{OneFactor}
use Rattle.source_text.specs.declared.sums.OneSum.{OneSum}
use Rattle.source_text.specs.Keeping.{IsWorth}
use Rattle.source_text.specs.Names.{Names}
use Rattle.source_text.specs.Reading.{behind_one, both_faults, number, stands}
use Rattle.source_text.specs.Sequences.{Inside, Worth, closed, level_part, piece_worth, repeated, repeats, skip_part, sum_part}
use Rattle.source_text.specs.Sums.{factor, sum}

-- a number above another is a successor
pub some_most : (n most : ℕ) → n < most → (less : ℕ) × (most ≡ suc less) × (n ≤ less)
some_most n zero room = absurd (omega arith)
some_most n (suc less) room = (less, refl, omega arith)

module _ (names : Names) (line : ℕ) (inside : Inside) where
  pub level_plain : (at n : ℕ) (faults : Faults) (tokens : List Token) → stands sign.Comma tokens ≡ false
      → level_part names line inside at n faults tokens ≡ closed sign.CloseBrace (piece_worth (Group n 0) at faults) tokens
  unfolding level_part
  level_plain at n faults tokens other = rw other refl

  pub level_bad : (at n : ℕ) (faults : Faults) (tokens : List Token) (left : ℕ) → stands sign.Comma tokens ≡ true → Err left ≡ number (behind_one tokens)
      → level_part names line inside at n faults tokens ≡ Err left
  unfolding level_part
  level_bad at n faults tokens left is e = rw (is, ← e) refl

  pub level_on : (at n : ℕ) (faults : Faults) (tokens rest : List Token) (level : Counted) → stands sign.Comma tokens ≡ true → Ok (level, rest) ≡ number (behind_one tokens)
      → level_part names line inside at n faults tokens ≡ closed sign.CloseBrace (piece_worth (Group n level.number) at (both_faults faults level.faults)) rest
  unfolding level_part
  level_on at n faults tokens rest level is e = rw (is, ← e) refl

  pub sum_bad : (at : ℕ) (tokens : List Token) (left : ℕ) → Err left ≡ sum names line tokens → sum_part names line inside at tokens ≡ Err left
  sum_bad at tokens left e = rw (← e) refl

  pub sum_on : (at : ℕ) (tokens rest : List Token) (one : OneSum) → Ok (one, rest) ≡ sum names line tokens
      → sum_part names line inside at tokens ≡ closed sign.CloseBrace (piece_worth (Skip one.sum) at one.faults) rest
  sum_on at tokens rest one e = rw (← e) refl

  pub skip_sum : (at : ℕ) (tokens : List Token) → stands sign.OpenBrace tokens ≡ true → skip_part names line inside at tokens ≡ sum_part names line inside at (behind_one tokens)
  unfolding skip_part
  skip_sum at tokens is = rw is refl

  pub skip_bad : (at : ℕ) (tokens : List Token) (left : ℕ) → stands sign.OpenBrace tokens ≡ false → Err left ≡ factor names line tokens → skip_part names line inside at tokens ≡ Err left
  unfolding skip_part
  skip_bad at tokens left other e = rw (other, ← e) refl

  pub skip_one : (at : ℕ) (tokens rest : List Token) (one : OneFactor) → stands sign.OpenBrace tokens ≡ false → Ok (one, rest) ≡ factor names line tokens
      → skip_part names line inside at tokens ≡ Ok (piece_worth (Skip ((one.factor ∷ []) ∷ [])) at one.faults, rest)
  unfolding skip_part
  skip_one at tokens rest one other e = rw (other, ← e) refl

-- what repeats a part, as far as it is read

pub record RepeatsFound (limit : ℕ) (part : Worth) (tokens : List Token) (found : Found) (rest : List Token) : Type 0 where
  pub now : Worth
  pub is : IsWorth limit found now
  pub most : ℕ
  pub room : length rest < most
  pub goes : repeats (suc (length tokens)) part tokens ≡ repeats most now rest

repeats_turn : (most : ℕ) (now : Worth) (rest left : List Token) (n : Counted) → stands sign.Star rest ≡ true → Ok (n, left) ≡ number (behind_one rest)
    → repeats (suc most) now rest ≡ repeats most (repeated now n.number n.faults) left
unfolding repeats
repeats_turn most now rest left n is e = rw (is, ← e) refl

repeats_stop : (most : ℕ) (now : Worth) (rest : List Token) (left : ℕ) → stands sign.Star rest ≡ true → Err left ≡ number (behind_one rest) → repeats (suc most) now rest ≡ Err left
unfolding repeats
repeats_stop most now rest left is e = rw (is, ← e) refl

repeats_last : (most : ℕ) (now : Worth) (rest : List Token) → stands sign.Star rest ≡ false → repeats (suc most) now rest ≡ Ok (now, rest)
unfolding repeats
repeats_last most now rest other = rw other refl

pub repeats_first : (limit : ℕ) (part : Worth) (tokens : List Token) (found : Found) → IsWorth limit found part → RepeatsFound limit part tokens found tokens
repeats_first limit part tokens found is = record { now = part; is = is; most = suc (length tokens); room = omega arith; goes = refl }

pub repeats_more : (limit : ℕ) (part : Worth) (tokens : List Token) (found next : Found) (rest left : List Token) (n : Counted) → stands sign.Star rest ≡ true → Ok (n, left) ≡ number (behind_one rest)
    → length left < length rest → ((x : Worth) → IsWorth limit found x → IsWorth limit next (repeated x n.number n.faults))
    → RepeatsFound limit part tokens found rest → RepeatsFound limit part tokens next left
repeats_more limit part tokens found next rest left n is e fewer gives before =
    let m = some_most (length rest) before.most before.room in
    record {
      now = repeated before.now n.number n.faults;
      is = gives before.now before.is;
      most = m.0;
      room = omega (arith, m.2);
      goes = before.goes ∙ ap (λ k. repeats k before.now rest) m.1 ∙ repeats_turn m.0 before.now rest left n is e;
    }

pub repeats_bad : (limit : ℕ) (part : Worth) (tokens : List Token) (found : Found) (rest : List Token) (left : ℕ) → stands sign.Star rest ≡ true → Err left ≡ number (behind_one rest)
    → RepeatsFound limit part tokens found rest → repeats (suc (length tokens)) part tokens ≡ Err left
repeats_bad limit part tokens found rest left is e before =
    let m = some_most (length rest) before.most before.room in
    before.goes ∙ ap (λ k. repeats k before.now rest) m.1 ∙ repeats_stop m.0 before.now rest left is e

pub repeats_end : (limit : ℕ) (part : Worth) (tokens : List Token) (found : Found) (rest : List Token) → stands sign.Star rest ≡ false
    → RepeatsFound limit part tokens found rest → (worth : Worth) × (repeats (suc (length tokens)) part tokens ≡ Ok (worth, rest)) × IsWorth limit found worth
repeats_end limit part tokens found rest other before =
    let m = some_most (length rest) before.most before.room in
    (before.now, before.goes ∙ ap (λ k. repeats k before.now rest) m.1 ∙ repeats_last m.0 before.now rest other, before.is)
