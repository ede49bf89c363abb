-- From items as they are held to the attempt.
use Rattle.std.proofs.Common.{◌≡◌, ℕ, ◌+◌, ◌-◌, ◌^◌, ◌<◌, ◌≤◌, inl, inr, Option, Some, List, length, drop, map, arith, refl, sym, ap, subst, ◌∙◌}
use Rattle.std.specs.Prelude.{unwrap_or, slice_range}
use Rattle.std.proofs.lemmas.List.{length-drop, length-map, length-append}
use Rattle.fuun_base.specs.declared.letters.Base.{Base}
use Rattle.dna_items.specs.declared.items.PatItem.{PatItem}
use Rattle.dna_items.specs.declared.items.TplItem.{TplItem}
use Rattle.dna_items.specs.Held.{held_template_item, held_pattern, held_template}
use Rattle.dna_reader.specs.Pairs.{PairStands}
use Rattle.matcher.specs.Match.{last_place}
use Rattle.matcher.proofs.OpenGroups.{stops_most}
use Rattle.matcher.specs.Groups.{AreGroups}
use Rattle.matcher.specs.Found.{MatchesAt, moved}
use Rattle.replacer.specs.Replacement.{replacement, texts_of, replaced}
use Rattle.replacer.specs.Weight.{weight, quoted_bases}
use Rattle.exec_loop.specs.declared.machine.Outcome.{Outcome}
use Rattle.exec_loop.specs.declared.machine.Outcome.TheVariants as outcome
use Rattle.exec_loop.specs.Attempt.{Ending, Matched, NoMatch, TooLong, Finished, Attempt, Rewrites, EndsBy, IsAttempt, next_dna}
use Rattle.exec_loop.specs.Made.{outcome_of, dna_behind}
use Rattle.exec_loop.specs.Weights.{Weighs}
use Rattle.exec_loop.specs.Rewriting.{ReplacesAt, ComesTo}
use Rattle.exec_loop.proofs.HeldItems.{texts_moved, quoted_held, match_held, none_held, groups_held, IsAlike, replaced_alike, replaced_moved}

-- an attempt of these items that is reported by this outcome
pub record IsLifted (d : List Base) (limit : ℕ) (items : List PatItem) (puts : List TplItem) (rna : List (List Base)) (outcome : Outcome) (next : Option (List Base)) : Type 0 where
  pub attempt : Attempt
  pub is : IsAttempt d limit attempt
  pub pattern : attempt.pattern ≡ items
  pub template : attempt.template ≡ puts
  pub gives : attempt.rna ≡ rna
  pub reported : outcome ≡ outcome_of attempt.ending
  pub behind : next ≡ next_dna attempt.ending

pub behind_is : (d : List Base) (ending : Ending) → unwrap_or (next_dna ending) d ≡ dna_behind d ending
behind_is d (Matched stop next) = refl
behind_is d (NoMatch next) = refl
behind_is d TooLong = refl
behind_is d Finished = refl

-- a match at a place, with the replacement that was made of it
pub replaces_at : (d : List Base) (place : ℕ) (pattern : List PatItem) (template : List TplItem) (stop : ℕ) (groups : List (ℕ × ℕ)) (next : List Base)
    → MatchesAt d place pattern stop groups → next ≡ replaced d template groups stop → ReplacesAt d place pattern template (stop - place) next
replaces_at d place pattern template stop groups next x puts =
    let back : stop ≡ place + (stop - place) = let h = x.stops in omega arith in
    record {
      groups = groups;
      matches = subst (λ n. MatchesAt d place pattern n groups) back x;
      puts = puts ∙ ap (λ n. replaced d template groups n) back;
    }

module _ (d : List Base) (items : List PatItem) (puts : List TplItem) (rna : List (List Base)) (place : ℕ) (stands : PairStands d items puts rna (drop place d))
    (small : length d < 2 ^ 63) (few : length items ≤ length d) where
  attempt_by : Ending → Attempt
  attempt_by ending = record { pattern = items; template = puts; rna = rna; ending = ending }

  small_rest : length (drop place d) < 2 ^ 63
  small_rest = omega (arith, length-drop place d)

  -- the groups are few
  few_groups : (places : List ℕ) (ranges : List (ℕ × ℕ)) → AreGroups items places ranges → length (map (moved place) ranges) < 2 ^ 63
  few_groups places ranges grouped = let number = grouped.number in omega (arith, length-map ranges (moved place), number, stops_most items)

  -- with the numbers as they were read
  record TrueReplacement (stop : ℕ) (texts : List (List Base)) : Type 0 where
    dna : List Base
    rewrites : (ending : Ending) → Rewrites d (attempt_by ending) stop dna
    same_texts : (ending : Ending) → let x : Rewrites d (attempt_by ending) stop dna = rewrites ending in texts_of x.rest x.groups ≡ texts

  true_replacement : (stop : ℕ) (next : List Base) (x : ReplacesAt d place (held_pattern items) (held_template puts) stop next) → (t : TrueReplacement stop (texts_of d x.groups)) × IsAlike next t.dna
  unfolding attempt_by
  true_replacement stop next x =
      let found : MatchesAt d place (held_pattern items) (place + stop) x.groups = x.matches in
      let grouped : AreGroups items found.places found.ranges = groups_held items found.places found.ranges found.grouped in
      let stops : stop ≡ last_place found.places = let h = found.stops in omega arith in
      let dna : List Base = replaced d puts (map (moved place) found.ranges) (place + stop) in
      let rewrites : (ending : Ending) → Rewrites d (attempt_by ending) stop dna = λ ending. record {
        rest = drop place d;
        places = found.places;
        groups = found.ranges;
        reads = stands;
        match = match_held (drop place d) items found.places small_rest found.is;
        stops = stops;
        grouped = grouped;
        puts = replaced_moved d place puts found.ranges stop;
      } in
      let is : next ≡ replaced d (held_template puts) (map (moved place) found.ranges) (place + stop) = x.puts ∙ ap (λ l. replaced d (held_template puts) l (place + stop)) found.moves in
      let same : texts_of (drop place d) found.ranges ≡ texts_of d x.groups = sym (texts_moved d place found.ranges) ∙ ap (texts_of d) (sym found.moves) in
      (record { dna = dna; rewrites = rewrites; same_texts = λ ending. same }, subst (λ l. IsAlike l dna) (sym is) (replaced_alike d puts (map (moved place) found.ranges) (place + stop) (few_groups found.places found.ranges grouped)))

  lifted_by : (limit : ℕ) (outcome : Outcome) (next : Option (List Base)) (ending : Ending) → EndsBy d limit (attempt_by ending) ending → outcome ≡ outcome_of ending → next ≡ next_dna ending → IsLifted d limit items puts rna outcome next
  unfolding attempt_by
  lifted_by limit outcome next ending is reported behind = record {
    attempt = attempt_by ending;
    is = is;
    pattern = refl;
    template = refl;
    gives = refl;
    reported = reported;
    behind = behind;
  }

  pub lifted : (limit : ℕ) (outcome : Outcome) (next : Option (List Base)) → limit ≤ 2 ^ 40 → ComesTo d place limit (held_pattern items) (held_template puts) outcome next → IsLifted d limit items puts rna outcome next
  unfolding attempt_by
  lifted limit (outcome.Matched stop) next most x =
      let t : (t : TrueReplacement stop (texts_of d x.1.groups)) × IsAlike x.0 t.dna = true_replacement stop x.0 x.1 in
      let within : length x.0 ≤ limit = x.2 in
      elim t.1 [
        | inl same ↦ lifted_by limit (outcome.Matched stop) next (Matched stop t.0.dna) (t.0.rewrites (Matched stop t.0.dna), subst (λ l. length l ≤ limit) same x.2) refl (x.3 ∙ ap (λ l. Some l) same)
        | inr long ↦ let above : 2 ^ 40 < length x.0 = long.0 in absurd (omega arith)
      ]
  lifted limit outcome.NoMatch next most x =
      lifted_by limit outcome.NoMatch next (NoMatch (drop place d)) (record { reads = stands; none = none_held (drop place d) items small_rest x.0 }) refl x.1
  lifted limit outcome.TooLong next most x =
      let t : (t : TrueReplacement x.0 (texts_of d x.2.groups)) × IsAlike x.1 t.dna = true_replacement x.0 x.1 x.2 in
      let longer : limit < length t.0.dna = elim t.1 [
        | inl same ↦ subst (λ l. limit < length l) same x.3
        | inr long ↦ let above : 2 ^ 40 < length t.0.dna = long.1 in omega arith
      ] in
      lifted_by limit outcome.TooLong next TooLong (x.0, t.0.dna, t.0.rewrites TooLong, longer) refl x.4
  lifted limit outcome.Finished next most x = absurd x

  -- the attempt of a match within the limit, and what it weighs
  pub matched_weighs : (limit height stop : ℕ) (groups : List (ℕ × ℕ)) → limit ≤ 2 ^ 40 → MatchesAt d place (held_pattern items) stop groups → length (replaced d (held_template puts) groups stop) ≤ limit
      → (attempt : Attempt) × IsAttempt d limit attempt × Weighs height d attempt (weight (length (held_template puts)) (quoted_bases (texts_of d groups) (held_template puts)) height)
  unfolding attempt_by replaces_at
  matched_weighs limit height stop groups most x within =
      let texts : List (List Base) = texts_of d groups in
      let next : List Base = replaced d (held_template puts) groups stop in
      let r : ReplacesAt d place (held_pattern items) (held_template puts) (stop - place) next = replaces_at d place (held_pattern items) (held_template puts) stop groups next x refl in
      let t : (t : TrueReplacement (stop - place) texts) × IsAlike next t.dna = true_replacement (stop - place) next r in
      let ending : Ending = Matched (stop - place) t.0.dna in
      let same : next ≡ t.0.dna = elim t.1 [
        | inl same ↦ same
        | inr long ↦ let above : 2 ^ 40 < length next = long.0 in absurd (omega arith)
      ] in
      let number : length texts ≡ length groups = length-map groups (λ (range : ℕ × ℕ). slice_range d range.0 range.1) in
      let few : length groups < 2 ^ 63 = omega (arith, ap length x.moves, few_groups x.places x.ranges (groups_held items x.places x.ranges x.grouped)) in
      let short : length (replacement texts (held_template puts)) ≤ 2 ^ 40 = omega (arith, length-append (replacement texts (held_template puts)) (drop stop d)) in
      let quoted : quoted_bases texts (held_template puts) ≡ quoted_bases texts puts = quoted_held texts puts (omega arith) short in
      let count : length (held_template puts) ≡ length puts = length-map puts held_template_item in (
        attempt_by ending,
        (t.0.rewrites ending, subst (λ l. length l ≤ limit) same within),
        (
          t.0.rewrites ending,
          ap (λ n. weight n (quoted_bases texts (held_template puts)) height) count
              ∙ ap (λ n. weight (length puts) n height) quoted
              ∙ ap (λ l. weight (length puts) (quoted_bases l puts) height) (sym (t.0.same_texts ending)),
        ),
      )
