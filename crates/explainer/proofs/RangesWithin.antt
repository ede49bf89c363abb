-- The cells of a run hold only places within the target.
use Rattle.std.proofs.Common.{◌≡◌, ℕ, zero, suc, ◌+◌, ◌-◌, ◌<◌, ◌≤◌, Some, List, [], ◌∷◌, ◌++◌, length, drop, take, map, arith, refl, sym, ap, subst, ◌∙◌}
use Rattle.std.specs.Prelude.{slice_get, slice_range}
use Rattle.std.specs.List.{flat_map}
use Rattle.std.proofs.lemmas.List.{map-append}
use Rattle.std.proofs.lemmas.Option.{same_Some, none-some}
use Rattle.fuun_base.specs.declared.letters.Base.{Base}
use Rattle.fuun_base.specs.Quote.{protect, asnat}
use Rattle.dna_items.specs.declared.items.TplItem.{TplItem}
use Rattle.dna_items.specs.declared.items.TplItem.TheVariants.{Base as Literal, Group, Len}
use Rattle.sym_strand.specs.declared.cells.Cell.{Cell}
use Rattle.sym_strand.specs.declared.cells.Cell.TheVariants.{Known, Target}
use Rattle.sym_strand.specs.declared.segments.Seg.{Seg}
use Rattle.sym_strand.specs.declared.segments.Seg.TheVariants as seg
use Rattle.sym_strand.specs.Cells.{places_from, start_cells, known_front}
use Rattle.sym_strand.specs.Segments.{cells_in, cells_of}
use Rattle.sym_strand.proofs.Places.{length-places}
use Rattle.explainer.specs.Filling.{base_in, fill}
use Rattle.explainer.specs.Replacement.{text_of, texts_of, put_by, replaced}
use Rattle.explainer.specs.Attempt as one
use Rattle.explainer.specs.Attempt.{Attempt, Ending, Matched, NoMatch, EndsBy, next_cells}
use Rattle.explainer.specs.Run.{End, Finished, Budget, TooLong, Depends, LeadOn, Run, RunsTo}
use Rattle.explainer.specs.Answers.{RangesWithin, bases_in}
use Rattle.explainer.proofs.Filled.{fill_known, fill_places}

-- each place is one of the first n
abbrev pub CellsWithin : ℕ → List Cell → Type 0
CellsWithin n [] = Unit {0}
CellsWithin n (Known b ∷ z) = CellsWithin n z
CellsWithin n (Target place ∷ z) = (place < n) × CellsWithin n z

within-append : (n : ℕ) (x y : List Cell) → CellsWithin n x → CellsWithin n y → CellsWithin n (x ++ y)
within-append n [] y a b = b
within-append n (Known c ∷ x) y a b = within-append n x y a b
within-append n (Target place ∷ x) y a b = (a.0, within-append n x y a.1 b)

within-drop : (n k : ℕ) (z : List Cell) → CellsWithin n z → CellsWithin n (drop k z)
within-drop n zero z a = a
within-drop n (suc k) [] a = a
within-drop n (suc k) (Known c ∷ z) a = within-drop n k z a
within-drop n (suc k) (Target place ∷ z) a = within-drop n k z a.1

within-take : (n k : ℕ) (z : List Cell) → CellsWithin n z → CellsWithin n (take k z)
within-take n zero z a = tt
within-take n (suc k) [] a = a
within-take n (suc k) (Known c ∷ z) a = within-take n k z a
within-take n (suc k) (Target place ∷ z) a = (a.0, within-take n k z a.1)

within-known : (n : ℕ) (bases : List Base) → CellsWithin n (map Known bases)
within-known n [] = tt
within-known n (b ∷ bases) = within-known n bases

within-places : (n lo count : ℕ) → lo + count ≤ n → CellsWithin n (places_from lo count)
unfolding places_from
within-places n lo zero fits = tt
within-places n lo (suc count) fits = (omega arith, within-places n (lo + 1) count (omega arith))

pub within_start : (prefix : List Base) (target : ℕ) → CellsWithin target (start_cells prefix target)
within_start prefix target =
    within-append target (map Known prefix) (places_from 0 target) (within-known target prefix) (within-places target 0 target (omega arith))

-- what a template puts

text_within : (n : ℕ) (z : List Cell) (ranges : List (ℕ × ℕ)) (k : ℕ) → CellsWithin n z → CellsWithin n (text_of (texts_of z ranges) k)
text_within n z [] k a = tt
text_within n z (range ∷ ranges) zero a = within-take n (range.1 - range.0) (drop range.0 z) (within-drop n range.0 z a)
text_within n z (range ∷ ranges) (suc k) a = text_within n z ranges k a

put_within : (n : ℕ) (z : List Cell) (ranges : List (ℕ × ℕ)) (item : TplItem) → CellsWithin n z → CellsWithin n (put_by (texts_of z ranges) item)
put_within n z ranges (Literal b) a = tt
put_within n z ranges (Group k zero) a = text_within n z ranges k a
put_within n z ranges (Group k (suc level)) a = within-known n (protect (suc level) (known_front (text_of (texts_of z ranges) k)))
put_within n z ranges (Len k) a = within-known n (asnat (length (text_of (texts_of z ranges) k)))

puts_within : (n : ℕ) (z : List Cell) (ranges : List (ℕ × ℕ)) (items : List TplItem) → CellsWithin n z → CellsWithin n (flat_map (put_by (texts_of z ranges)) items)
puts_within n z ranges [] a = tt
puts_within n z ranges (item ∷ items) a =
    within-append n (put_by (texts_of z ranges) item) (flat_map (put_by (texts_of z ranges)) items) (put_within n z ranges item a) (puts_within n z ranges items a)

replaced_within : (n : ℕ) (z : List Cell) (items : List TplItem) (ranges : List (ℕ × ℕ)) (stop : ℕ) → CellsWithin n z → CellsWithin n (replaced z items ranges stop)
replaced_within n z items ranges stop a =
    within-append n (flat_map (put_by (texts_of z ranges)) items) (drop stop z) (puts_within n z ranges items a) (within-drop n stop z a)

-- attempts and runs

next_within : (n : ℕ) (z next : List Cell) (limit : ℕ) (attempt : Attempt) (ending : Ending) → EndsBy z limit attempt ending → next_cells ending ≡ Some next → CellsWithin n z → CellsWithin n next
next_within n z next limit attempt (Matched stop made) x is a =
    let rest : CellsWithin n x.0.rest = subst (CellsWithin n) (sym x.0.matches.reads.behind) (within-drop n (length (known_front z) - length x.0.matches.reads.left) z a) in
    subst (CellsWithin n) (sym x.0.puts ∙ same_Some made next is) (replaced_within n x.0.rest attempt.template x.0.groups stop rest)
next_within n z next limit attempt (NoMatch made) x is a =
    subst (CellsWithin n) (sym x.reads.behind ∙ same_Some made next is) (within-drop n (length (known_front z) - length x.reads.left) z a)
next_within n z next limit attempt one.TooLong x is a = absurd (none-some next is)
next_within n z next limit attempt one.Finished x is a = absurd (none-some next is)

last_within : (n limit : ℕ) (z : List Cell) (attempts : List Attempt) (last : List Cell) → LeadOn limit z attempts last → CellsWithin n z → CellsWithin n last
last_within n limit z [] last x a = subst (CellsWithin n) x a
last_within n limit z (attempt ∷ attempts) last x a =
    last_within n limit x.1.0 attempts last x.1.2 (next_within n z x.1.0 limit attempt attempt.ending x.0 x.1.1 a)

pub run_within : (n : ℕ) (z : List Cell) (budget limit : ℕ) (run : Run) (end : End) → RunsTo z budget limit run end → CellsWithin n z → CellsWithin n run.cells
run_within n z budget limit run (Finished attempts) x a = last_within n limit z x.2.earlier run.cells x.2.leads a
run_within n z budget limit run Budget x a = last_within n limit z run.attempts run.cells x.leads a
run_within n z budget limit run (TooLong attempt) x a = last_within n limit z x.earlier run.cells x.leads a
run_within n z budget limit run (Depends attempt) x a = last_within n limit z run.attempts run.cells x.leads a

-- segments

behind_known : (n : ℕ) (bases : List Base) (z : List Cell) → CellsWithin n (map Known bases ++ z) → CellsWithin n z
behind_known n [] z a = a
behind_known n (b ∷ bases) z a = behind_known n bases z a

behind_places : (n lo count : ℕ) (z : List Cell) → CellsWithin n (places_from lo count ++ z) → (0 < count → lo + count ≤ n) × CellsWithin n z
unfolding places_from
behind_places n lo zero z a = (λ some. absurd (omega arith), a)
behind_places n lo (suc zero) z a = (λ some. let inside : lo < n = a.0 in omega arith, a.1)
behind_places n lo (suc (suc count)) z a =
    let rest = behind_places n (lo + 1) (suc count) z a.1 in
    (λ some. omega (arith, rest.0 (omega arith)), rest.1)

pub ranges_within : (n : ℕ) (segs : List Seg) → ((k : ℕ) (s : Seg) → slice_get segs k ≡ Some s → 0 < length (cells_in s)) → CellsWithin n (cells_of segs) → RangesWithin n segs
ranges_within n [] some a = tt
ranges_within n (seg.Known bases ∷ segs) some a = ranges_within n segs (λ k s is. some (suc k) s is) (behind_known n bases (cells_of segs) a)
ranges_within n (seg.Target lo hi ∷ segs) some a =
    let here : 0 < length (places_from lo (hi - lo)) = some 0 (seg.Target lo hi) refl in
    let count : 0 < hi - lo = omega (arith, length-places lo (hi - lo)) in
    let parts = behind_places n lo (hi - lo) (cells_of segs) a in
    let inside : lo + (hi - lo) ≤ n = parts.0 count in
    (omega arith, omega arith, ranges_within n segs (λ k s is. some (suc k) s is) parts.1)

pub segments_filled : (d : List Base) (segs : List Seg) → RangesWithin (length d) segs → fill d (cells_of segs) ≡ flat_map (bases_in d) segs
segments_filled d [] within = refl
segments_filled d (seg.Known bases ∷ segs) within =
    map-append (base_in d) (map Known bases) (cells_of segs)
    ∙ ap (λ l. l ++ fill d (cells_of segs)) (fill_known d bases)
    ∙ ap (λ l. bases ++ l) (segments_filled d segs within)
segments_filled d (seg.Target lo hi ∷ segs) within =
    let order : lo < hi = within.0 in
    let fits : hi ≤ length d = within.1 in
    map-append (base_in d) (places_from lo (hi - lo)) (cells_of segs)
    ∙ ap (λ l. l ++ fill d (cells_of segs)) (fill_places d lo (hi - lo) (omega arith))
    ∙ ap (λ l. slice_range d lo hi ++ l) (segments_filled d segs within.2)
