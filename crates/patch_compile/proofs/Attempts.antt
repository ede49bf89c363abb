-- The attempt that a part makes on the DNA behind it.
use Rattle.std.proofs.Common.{◌≡◌, ℕ, zero, suc, ◌+◌, ◌≤◌, Some, List, [], ◌∷◌, ◌++◌, flat_map, length, drop, arith, refl, sym, ap, ◌∙◌, subst, length-append}
use Rattle.std.specs.Prelude.{slice_get, slice_range}
use Rattle.std.proofs.lemmas.List.{append_assoc}
use Rattle.std.proofs.lemmas.Option.{none-some}
use Rattle.fuun_base.specs.declared.letters.Base.{Base}
use Rattle.fuun_base.specs.Quote.{protect}
use Rattle.dna_items.specs.declared.items.PatItem.{PatItem}
use Rattle.dna_items.specs.declared.items.PatItem.TheVariants.{Skip, GroupStart, GroupStop}
use Rattle.dna_items.specs.declared.items.TplItem.{TplItem}
use Rattle.dna_items.specs.Balance.{IsBalanced}
use Rattle.dna_reader.specs.Codes.{pair_code, IsReadable}
use Rattle.dna_reader.proofs.CodeLemmas.{pair_code_is_read}
use Rattle.matcher.specs.Groups.{IsGroup, AreGroups}
use Rattle.matcher.specs.Match.{IsMatch, last_place}
use Rattle.matcher.proofs.OpenGroups.{balanced_plain, balanced-append, balanced_group}
use Rattle.replacer.specs.Replacement.{text_of, texts_of, put_by, replaced}
use Rattle.exec_loop.specs.Attempt.{Attempt, Matched, Rewrites, IsAttempt}
use Rattle.patch_compile.specs.Code.{edit_code, range_code}
use Rattle.patch_compile.proofs.Pairs.{edit_pattern, edit_template, literals, range_pattern, groups, edit_is_pair, range_is_pair}
use Rattle.patch_compile.proofs.Seams.{drop_at, range_at}

-- an attempt on a DNA that matches, gives no RNA and leads to the next DNA
pub record Steps (d next : List Base) (limit : ℕ) : Type 0 where
  pub attempt : Attempt
  pub is : IsAttempt d limit attempt
  pub stop : ℕ
  pub ends : attempt.ending ≡ Matched stop next
  pub rna : attempt.rna ≡ []

-- a match of a pattern on a DNA, with its groups
record Found (d : List Base) (pattern : List PatItem) (ranges : List (ℕ × ℕ)) (stop : ℕ) : Type 0 where
  places : List ℕ
  match : IsMatch d pattern places
  stops : stop ≡ last_place places
  grouped : AreGroups pattern places ranges

steps_by : (pattern : List PatItem) (template : List TplItem) (d next : List Base) (ranges : List (ℕ × ℕ)) (stop limit : ℕ)
    → IsReadable pattern → Found d pattern ranges stop → next ≡ replaced d template ranges stop → length next ≤ limit
    → Steps (pair_code pattern template ++ d) next limit
steps_by pattern template d next ranges stop limit readable found puts within =
    let attempt : Attempt = record { pattern = pattern; template = template; rna = []; ending = Matched stop next } in
    let rewrites : Rewrites (pair_code pattern template ++ d) attempt stop next = record {
      rest = d;
      places = found.places;
      groups = ranges;
      reads = pair_code_is_read pattern template d readable;
      match = found.match;
      stops = found.stops;
      grouped = found.grouped;
      puts = puts;
    } in
    record { attempt = attempt; is = (rewrites, within); stop = stop; ends = refl; rna = refl }

one_skip : (n : ℕ) → IsBalanced (Skip n ∷ [])
one_skip n = balanced_plain (Skip n ∷ []) refl refl

-- edits

pub edit_readable : (n cut : ℕ) → IsReadable (edit_pattern n cut)
edit_readable n cut = record {
  balanced = balanced-append (GroupStart ∷ Skip n ∷ GroupStop ∷ []) (Skip cut ∷ []) (balanced_group (Skip n ∷ []) (one_skip n)) (one_skip cut);
  apart = refl;
}

pub edit_groups : (n cut stop : ℕ) → slice_get (edit_pattern n cut) stop ≡ Some GroupStop → IsGroup (edit_pattern n cut) (0 ∷ 0 ∷ n ∷ n ∷ (n + cut) ∷ []) ((0, n) ∷ []) stop
edit_groups n cut zero e = absurd (let h : GroupStart ≡ GroupStop = cc in cc)
edit_groups n cut (suc zero) e = absurd (cc)
edit_groups n cut (suc (suc zero)) e = (0, record { before = omega arith; starts = refl; ends = refl; between = one_skip n }, refl)
edit_groups n cut (suc (suc (suc zero))) e = absurd (cc)
edit_groups n cut (suc (suc (suc (suc stop)))) e = absurd (none-some GroupStop e)

edit_found : (d : List Base) (n cut : ℕ) → n + cut ≤ length d → Found d (edit_pattern n cut) ((0, n) ∷ []) (n + cut)
edit_found d n cut within = record {
  places = 0 ∷ 0 ∷ n ∷ n ∷ (n + cut) ∷ [];
  match = (refl, (refl, ((omega arith, omega (arith, within)), (refl, ((refl, within), tt)))));
  stops = refl;
  grouped = record { number = refl; each = edit_groups n cut };
}

put_literals : (texts : List (List Base)) (put : List Base) → flat_map (put_by texts) (literals put) ≡ put
put_literals texts [] = refl
put_literals texts (b ∷ put) = ap (λ l. b ∷ l) (put_literals texts put)

pub edit_steps : (w0 w1 v put : List Base) (n cut limit : ℕ) → n ≡ length w0 → cut ≡ length w1 → length (w0 ++ (put ++ v)) ≤ limit
    → Steps (edit_code n cut put ++ (w0 ++ (w1 ++ v))) (w0 ++ (put ++ v)) limit
unfolding protect
edit_steps w0 w1 v put n cut limit first second within =
    let d : List Base = w0 ++ (w1 ++ v) in
    let size : n + cut ≡ length (w0 ++ w1) = omega (arith, first, second, length-append w0 w1) in
    let inside : n + cut ≤ length d = omega (arith, first, second, length-append w0 (w1 ++ v), length-append w1 v) in
    let kept : slice_range d 0 n ≡ w0 = range_at d [] w0 (w1 ++ v) 0 n refl refl (omega (arith, first)) in
    let left : drop (n + cut) d ≡ v = drop_at d (w0 ++ w1) v (n + cut) (sym (append_assoc w0 w1 v)) size in
    let puts : w0 ++ (put ++ v) ≡ replaced d (edit_template put) ((0, n) ∷ []) (n + cut) =
    sym (append_assoc w0 put v) ∙ rw (put_literals (texts_of d ((0, n) ∷ [])) put, kept, left) refl in
    subst (λ l. Steps (l ++ d) (w0 ++ (put ++ v)) limit) (edit_is_pair n cut put)
    (steps_by (edit_pattern n cut) (edit_template put) d (w0 ++ (put ++ v)) ((0, n) ∷ []) (n + cut) limit (edit_readable n cut) (edit_found d n cut inside) puts within)

-- ranges

pub range_readable : (a b c : ℕ) → IsReadable (range_pattern a b c)
range_readable a b c =
    let one : (n : ℕ) → IsBalanced (GroupStart ∷ Skip n ∷ GroupStop ∷ []) = λ n. balanced_group (Skip n ∷ []) (one_skip n) in
    record {
      balanced = balanced-append (GroupStart ∷ Skip a ∷ GroupStop ∷ []) (GroupStart ∷ Skip b ∷ GroupStop ∷ GroupStart ∷ Skip c ∷ GroupStop ∷ []) (one a)
          (balanced-append (GroupStart ∷ Skip b ∷ GroupStop ∷ []) (GroupStart ∷ Skip c ∷ GroupStop ∷ []) (one b) (one c));
      apart = refl;
    }

abbrev range_places : ℕ → ℕ → ℕ → List ℕ
range_places a b c = 0 ∷ 0 ∷ a ∷ a ∷ a ∷ (a + b) ∷ (a + b) ∷ (a + b) ∷ (a + b + c) ∷ (a + b + c) ∷ []

abbrev range_ranges : ℕ → ℕ → ℕ → List (ℕ × ℕ)
range_ranges a b c = (0, a) ∷ (a, a + b) ∷ (a + b, a + b + c) ∷ []

pub range_groups : (a b c stop : ℕ) → slice_get (range_pattern a b c) stop ≡ Some GroupStop → IsGroup (range_pattern a b c) (range_places a b c) (range_ranges a b c) stop
range_groups a b c zero e = absurd (let h : GroupStart ≡ GroupStop = cc in cc)
range_groups a b c (suc zero) e = absurd (cc)
range_groups a b c (suc (suc zero)) e = (0, record { before = omega arith; starts = refl; ends = refl; between = one_skip a }, refl)
range_groups a b c (suc (suc (suc zero))) e = absurd (let h : GroupStart ≡ GroupStop = cc in cc)
range_groups a b c (suc (suc (suc (suc zero)))) e = absurd (cc)
range_groups a b c (suc (suc (suc (suc (suc zero))))) e = (3, record { before = omega arith; starts = refl; ends = refl; between = one_skip b }, refl)
range_groups a b c (suc (suc (suc (suc (suc (suc zero)))))) e = absurd (let h : GroupStart ≡ GroupStop = cc in cc)
range_groups a b c (suc (suc (suc (suc (suc (suc (suc zero))))))) e = absurd (cc)
range_groups a b c (suc (suc (suc (suc (suc (suc (suc (suc zero)))))))) e = (6, record { before = omega arith; starts = refl; ends = refl; between = one_skip c }, refl)
range_groups a b c (suc (suc (suc (suc (suc (suc (suc (suc (suc stop))))))))) e = absurd (none-some GroupStop e)

range_found : (d : List Base) (a b c : ℕ) → a + b + c ≤ length d → Found d (range_pattern a b c) (range_ranges a b c) (a + b + c)
range_found d a b c within = record {
  places = range_places a b c;
  match = (refl, (refl, ((omega arith, omega (arith, within)), (refl, (refl, ((refl, omega (arith, within)), (refl, (refl, ((refl, within), (refl, tt))))))))));
  stops = refl;
  grouped = record { number = refl; each = range_groups a b c };
}

-- texts as references name them, before a list
abbrev pub placed : List (List Base) → List ℕ → List Base → List Base
placed texts [] v = v
placed texts (g ∷ references) v = text_of texts g ++ placed texts references v

placed_is : (texts : List (List Base)) (references : List ℕ) (v : List Base) → placed texts references v ≡ flat_map (put_by texts) (groups references) ++ v
unfolding protect
placed_is texts [] v = refl
placed_is texts (g ∷ references) v =
    ap (λ l. text_of texts g ++ l) (placed_is texts references v) ∙ sym (append_assoc (text_of texts g) (flat_map (put_by texts) (groups references)) v)

pub range_steps : (w0 w1 w2 v : List Base) (references : List ℕ) (a b c limit : ℕ) → a ≡ length w0 → b ≡ length w1 → c ≡ length w2
    → length (placed (w0 ∷ w1 ∷ w2 ∷ []) references v) ≤ limit
    → Steps (range_code a b c references ++ (w0 ++ (w1 ++ (w2 ++ v)))) (placed (w0 ∷ w1 ∷ w2 ∷ []) references v) limit
range_steps w0 w1 w2 v references a b c limit first second third within =
    let d : List Base = w0 ++ (w1 ++ (w2 ++ v)) in
    let texts : List (List Base) = w0 ∷ w1 ∷ w2 ∷ [] in
    let by_two : d ≡ (w0 ++ w1) ++ (w2 ++ v) = sym (append_assoc w0 w1 (w2 ++ v)) in
    let by_three : d ≡ ((w0 ++ w1) ++ w2) ++ v = by_two ∙ sym (append_assoc (w0 ++ w1) w2 v) in
    let two : a + b ≡ length (w0 ++ w1) = omega (arith, first, second, length-append w0 w1) in
    let three : a + b + c ≡ length ((w0 ++ w1) ++ w2) = omega (arith, two, third, length-append (w0 ++ w1) w2) in
    let inside : a + b + c ≤ length d = omega (arith, three, ap length by_three, length-append ((w0 ++ w1) ++ w2) v) in
    let text0 : slice_range d 0 a ≡ w0 = range_at d [] w0 (w1 ++ (w2 ++ v)) 0 a refl refl (omega (arith, first)) in
    let up1 : a + b ≡ a + length w1 = omega (arith, second) in
    let up2 : a + b + c ≡ a + b + length w2 = omega (arith, third) in
    let text1 : slice_range d a (a + b) ≡ w1 = range_at d w0 w1 (w2 ++ v) a (a + b) refl first up1 in
    let text2 : slice_range d (a + b) (a + b + c) ≡ w2 = range_at d (w0 ++ w1) w2 v (a + b) (a + b + c) by_two two up2 in
    let left : drop (a + b + c) d ≡ v = drop_at d ((w0 ++ w1) ++ w2) v (a + b + c) by_three three in
    let puts : placed texts references v ≡ replaced d (groups references) (range_ranges a b c) (a + b + c) =
    placed_is texts references v ∙ rw (text0, text1, text2, left) refl in
    subst (λ l. Steps (l ++ d) (placed texts references v) limit) (range_is_pair a b c references)
    (steps_by (range_pattern a b c) (groups references) d (placed texts references v) (range_ranges a b c) (a + b + c) limit (range_readable a b c) (range_found d a b c inside) puts within)
