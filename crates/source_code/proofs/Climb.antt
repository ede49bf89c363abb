-- From 0 up to the length of a line.
use Rattle.std.proofs.Common.{◌≡◌, ℕ, ◌-◌, ◌^◌, ◌<◌, ◌≤◌, true, false, List, inl, inr, arith, sym, ◌∙◌}
use Rattle.std.proofs.lemmas.Bool.{cases_lt}
use Rattle.dna_items.specs.Held.{held}
use Rattle.source_items.specs.declared.lines.Line.{Line}
use Rattle.source_items.specs.Lines.{are_small, line_len}
use Rattle.source_code.specs.Kept.{IsFound}
use Rattle.source_code.specs.Lengths.{IsBig}
use Rattle.source_code.proofs.AlikeLines.{all_alike, line_alike}
use Rattle.source_code.proofs.Existence.{IsLeast, has_least, least_is_length}
use Rattle.source_items.proofs.HeldLemmas.{held_alike, held_below, held_most, held_rises, held_same, held_top, held_within}
use Rattle.source_code.proofs.Rising.{line_big, line_rises}

-- a number that the line is no shorter than, and that is no greater than each number that is long enough
pub record Climbs (behind : List ℕ) (line : Line) (own : ℕ) : Type 0 where
  pub lowest : (n : ℕ) → line_len n behind line ≤ n → own ≤ n
  pub rises : own ≤ held (line_len own behind line)

pub climbs_from : (behind : List ℕ) (line : Line) → Climbs behind line 0
climbs_from behind line = record { lowest = λ n long. omega arith; rises = omega arith }

pub climbs_more : (behind : List ℕ) (line : Line) (own len : ℕ) → Climbs behind line own → len ≡ held (line_len own behind line) → own < len → Climbs behind line len
climbs_more behind line own len climbs is short =
    let most = held_below (line_len own behind line) in
    let rises = line_rises behind own len (omega (arith, short)) line in
    record {
      lowest = λ n long. let below = line_rises behind own n (climbs.lowest n long) line in omega (arith, below, long, most, is);
      rises = let held_rises = held_rises (line_len own behind line) (line_len len behind line) rises in omega (arith, held_rises, is);
    }

pub climbs_less : (own len true_len : ℕ) → len ≡ held true_len → own < len → 2 ^ 63 - len < 2 ^ 63 - own
climbs_less own len true_len is short = omega (arith, held_most true_len, is, short)

pub climbs_big : (behind : List ℕ) (line : Line) (own : ℕ) → Climbs behind line own → are_small own behind line ≡ false → IsBig behind line
climbs_big behind line own climbs big =
    let least = has_least behind line in
    let above : own ≤ least.0 = climbs.lowest least.0 (omega (arith, least.1.here)) in
    record { own = least.0; is = least_is_length behind line least.0 least.1; big = line_big behind own least.0 above line big }

-- the length that was reached
reached : (behind : List ℕ) (line : Line) (own : ℕ) → Climbs behind line own → held (line_len own behind line) ≤ own → (least : ℕ) → IsLeast behind line least → own ≡ held least
reached behind line own climbs long least is =
    let above : own ≤ least = climbs.lowest least (omega (arith, is.here)) in
    elim (cases_lt own (2 ^ 63)) [
      | inl small ↦
          let enough : line_len own behind line ≤ own = held_within (line_len own behind line) own long small in
          held_same own least small (omega (arith, above, is.least own enough))
      | inr big ↦ held_top own least big (omega (arith, held_most (line_len own behind line), climbs.rises)) above
    ]

pub climbs_found : (behind : List ℕ) (line : Line) (own len : ℕ) → Climbs behind line own → are_small own behind line ≡ true → len ≡ held (line_len own behind line) → len ≤ own → IsFound behind line own
climbs_found behind line own len climbs small is long =
    let least = has_least behind line in
    let same : own ≡ held least.0 = reached behind line own climbs (omega (arith, is, long)) least.0 least.1 in
    record {
      own = least.0;
      is = least_is_length behind line least.0 least.1;
      small = sym (line_alike own least.0 behind behind (held_alike own least.0 same) (all_alike behind) line) ∙ small;
      as_held = same;
    }
