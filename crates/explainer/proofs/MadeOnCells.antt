-- From items as they are held to the attempt on cells, and from attempts to a run.
use Rattle.std.proofs.Common.{◌≡◌, ℕ, ◌-◌, ◌^◌, ◌<◌, ◌≤◌, inl, inr, Bool, true, false, Some, List, [], ◌∷◌, ◌++◌, length, drop, arith, refl, sym, ap, subst, ◌∙◌}
use Rattle.std.specs.Prelude.{if◌then◌else◌, slice_range}
use Rattle.std.specs.List.{flat_map}
use Rattle.std.proofs.lemmas.List.{length-map, length-drop}
use Rattle.fuun_base.specs.declared.letters.Base.{Base}
use Rattle.dna_items.specs.declared.items.PatItem.{PatItem}
use Rattle.dna_items.specs.declared.items.TplItem.{TplItem}
use Rattle.dna_items.specs.Held.{held_pattern_item}
use Rattle.dna_reader.specs.Pairs.{PairIsRead, PairRanOut}
use Rattle.dna_reader.specs.Takers.{Appended}
use Rattle.matcher.specs.Groups.{AreGroups}
use Rattle.matcher.proofs.OpenGroups.{stops_most}
use Rattle.exec_loop.proofs.HeldItems.{groups_held}
use Rattle.sym_strand.specs.declared.cells.Cell.{Cell}
use Rattle.sym_strand.specs.Cells.{all_known, known_front}
use Rattle.explainer.specs.Attempt as one
use Rattle.explainer.specs.Attempt.{Attempt, ReadsBoth, RanOutOn, IsAttempt, EndsBy, DependsOn, InReading, InMatching, InTemplate, next_cells}
use Rattle.explainer.specs.Leading.{LeadAlong, FailAlong, DependAlong}
use Rattle.explainer.specs.Passing.{LeadTo}
use Rattle.explainer.specs.Replacement.{texts_of, put_by, depends_on_target, replaced}
use Rattle.explainer.specs.Making.{Comes, PutsSo, ComesOfItems}
use Rattle.explainer.specs.declared.attempt.Next.{Next}
use Rattle.explainer.specs.declared.attempt.Next.TheVariants.{Cells, TooLong, Finished, Depends}
use Rattle.explainer.proofs.Filled.{front_most, front_of_all_known, front_of_some_target}
use Rattle.explainer.proofs.HeldCells.{lead_along_held, fail_along_held, depend_along_held, IsAlike, puts_alike, template_held}

-- a reading that ran out

pub ran_out : (z : List Cell) (limit : ℕ) (old new : List (List Base)) → PairRanOut Appended old new (known_front z) 0 → (known : Bool) → known ≡ all_known z → (next : Next) → next ≡ (if known then Finished else Depends) → Comes z limit old new next
ran_out z limit old new out true is next same =
    subst (Comes z limit old new) (sym same) (record {
      attempt = record { pattern = []; template = []; rna = out.rna; ending = one.Finished };
      is = record { ran_out = out.ran_out; whole = front_of_all_known z (sym is); no_pattern = refl; no_template = refl };
      ends = refl;
      rna = out.taken;
    })
ran_out z limit old new out false is next same =
    subst (Comes z limit old new) (sym same) (InReading out.rna out.ran_out (front_of_some_target z (sym is)))

-- items that were read

module _ (z : List Cell) (limit : ℕ) (old new : List (List Base)) (pattern : List PatItem) (template : List TplItem) (place : ℕ)
    (read : PairIsRead Appended old new (known_front z) 0 pattern template place)
    (within : place ≤ length (known_front z)) (few : length pattern ≤ length (known_front z)) (small : length z ≤ 2 ^ 40) (most : limit ≤ 2 ^ 40) where
  attempt_by : one.Ending → Attempt
  attempt_by ending = record { pattern = read.items; template = read.puts; rna = read.rna; ending = ending }

  both_read : (ending : one.Ending) → ReadsBoth z (attempt_by ending) (drop place z)
  unfolding attempt_by
  both_read ending = record {
    pattern_rna = read.stands.pattern_rna;
    template_rna = read.stands.template_rna;
    middle = read.stands.middle;
    left = drop place (known_front z);
    pattern = read.stands.reads_pattern;
    template = read.stands.reads_template;
    rna = read.stands.whole;
    behind = ap (λ n. drop n z) (let e : place ≡ length (known_front z) - length (drop place (known_front z)) = omega (arith, length-drop place (known_front z)) in e);
  }

  small_rest : length (drop place z) < 2 ^ 63
  small_rest = omega (arith, length-drop place z)

  few_groups : (places : List ℕ) (groups : List (ℕ × ℕ)) → AreGroups read.items places groups → length (texts_of (drop place z) groups) < 2 ^ 63
  few_groups places groups grouped =
      let number = grouped.number in
      let count : length pattern ≡ length read.items = ap length read.pattern_held ∙ length-map read.items held_pattern_item in
      omega (arith, length-map groups (λ (range : ℕ × ℕ). slice_range (drop place z) range.0 range.1), number, stops_most read.items, count, front_most z)

  held_leads : (stop : ℕ) (groups : List (ℕ × ℕ)) (h : LeadTo (drop place z) pattern stop groups) → LeadAlong (drop place z) read.items 0 h.places
  held_leads stop groups h = lead_along_held (drop place z) read.items 0 h.places small_rest (subst (λ l. LeadAlong (drop place z) l 0 h.places) read.pattern_held h.leads)

  held_groups : (stop : ℕ) (groups : List (ℕ × ℕ)) (h : LeadTo (drop place z) pattern stop groups) → AreGroups read.items (0 ∷ h.places) groups
  held_groups stop groups h = groups_held read.items (0 ∷ h.places) groups (subst (λ l. AreGroups l (0 ∷ h.places) groups) read.pattern_held h.grouped)

  matches : (ending : one.Ending) (stop : ℕ) (groups : List (ℕ × ℕ)) (h : LeadTo (drop place z) pattern stop groups) → one.Matches z (attempt_by ending) (drop place z) h.places groups
  unfolding attempt_by
  matches ending stop groups h = record {
    reads = both_read ending;
    leads = held_leads stop groups h;
    grouped = held_groups stop groups h;
  }

  -- what the template puts, with the numbers as they were read
  alike : (stop : ℕ) (groups : List (ℕ × ℕ)) (h : LeadTo (drop place z) pattern stop groups)
      → IsAlike (flat_map (put_by (texts_of (drop place z) groups)) template ++ drop stop (drop place z)) (replaced (drop place z) read.puts groups stop)
  alike stop groups h =
      let texts : List (List Cell) = texts_of (drop place z) groups in
      subst (λ t. IsAlike (flat_map (put_by texts) t ++ drop stop (drop place z)) (replaced (drop place z) read.puts groups stop)) (sym read.template_held)
      (puts_alike texts read.puts (drop stop (drop place z)) (few_groups (0 ∷ h.places) groups (held_groups stop groups h)))

  depends_same : (stop : ℕ) (groups : List (ℕ × ℕ)) (h : LeadTo (drop place z) pattern stop groups)
      → depends_on_target (texts_of (drop place z) groups) template ≡ depends_on_target (texts_of (drop place z) groups) read.puts
  depends_same stop groups h =
      ap (depends_on_target (texts_of (drop place z) groups)) read.template_held
      ∙ template_held (texts_of (drop place z) groups) read.puts (few_groups (0 ∷ h.places) groups (held_groups stop groups h))

  rewrites : (ending : one.Ending) (stop : ℕ) (groups : List (ℕ × ℕ)) (h : LeadTo (drop place z) pattern stop groups)
      → depends_on_target (texts_of (drop place z) groups) template ≡ false → one.Rewrites z (attempt_by ending) stop (replaced (drop place z) read.puts groups stop)
  unfolding attempt_by
  rewrites ending stop groups h known = record {
    rest = drop place z;
    places = h.places;
    groups = groups;
    matches = matches ending stop groups h;
    known = sym (depends_same stop groups h) ∙ known;
    stops = h.stops;
    puts = refl;
  }

  puts_lifted : (stop : ℕ) (groups : List (ℕ × ℕ)) (h : LeadTo (drop place z) pattern stop groups) (next : Next)
      → PutsSo (texts_of (drop place z) groups) template (drop stop (drop place z)) limit next → Comes z limit old new next
  unfolding attempt_by
  puts_lifted stop groups h (Cells cells) x =
      let whole : List Cell = replaced (drop place z) read.puts groups stop in
      let within_limit : length cells ≤ limit = x.2 in
      let same : cells ≡ whole = elim (alike stop groups h) [
        | inl same ↦ x.1 ∙ same
        | inr long ↦ let above : 2 ^ 40 < length (flat_map (put_by (texts_of (drop place z) groups)) template ++ drop stop (drop place z)) = long.0 in absurd (omega (arith, ap length x.1))
      ] in (
        record {
          attempt = attempt_by (one.Matched stop whole);
          is = (rewrites (one.Matched stop whole) stop groups h x.0, subst (λ l. length l ≤ limit) same within_limit);
          ends = ap (λ l. Some l) (sym same);
          rna = read.taken;
        },
        within_limit,
      )
  puts_lifted stop groups h TooLong x =
      let whole : List Cell = replaced (drop place z) read.puts groups stop in
      let past : limit < length (flat_map (put_by (texts_of (drop place z) groups)) template ++ drop stop (drop place z)) = x.1 in
      let longer : limit < length whole = elim (alike stop groups h) [
        | inl same ↦ subst (λ l. limit < length l) same past
        | inr long ↦ let above : 2 ^ 40 < length whole = long.1 in omega arith
      ] in
      record {
        attempt = attempt_by one.TooLong;
        is = (stop, whole, rewrites one.TooLong stop groups h x.0, longer);
        ends = refl;
        rna = read.taken;
      }
  puts_lifted stop groups h Finished x = absurd x
  puts_lifted stop groups h Depends x =
      InTemplate (attempt_by one.Finished) (drop place z) h.places groups (matches one.Finished stop groups h) (sym (depends_same stop groups h) ∙ x)

  pub items_lifted : (next : Next) → length z ≤ limit → ComesOfItems (drop place z) pattern template limit next → Comes z limit old new next
  unfolding attempt_by
  items_lifted next short (inl h) = puts_lifted h.stop h.groups h.leads next h.puts
  items_lifted next short (inr (inl h)) =
      subst (Comes z limit old new) (sym h.0) (
        record {
          attempt = attempt_by (one.NoMatch (drop place z));
          is = record {
            reads = both_read (one.NoMatch (drop place z));
            fails = fail_along_held (drop place z) read.items 0 small_rest (subst (λ l. FailAlong (drop place z) l 0) read.pattern_held h.1);
          };
          ends = refl;
          rna = read.taken;
        },
        omega (arith, length-drop place z),
      )
  items_lifted next short (inr (inr h)) =
      subst (Comes z limit old new) (sym h.0)
      (InMatching (attempt_by one.Finished) (drop place z) (both_read one.Finished)
      (depend_along_held (drop place z) read.items 0 small_rest (subst (λ l. DependAlong (drop place z) l 0) read.pattern_held h.1)))
