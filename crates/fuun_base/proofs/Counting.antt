-- Tallies of lists.
use denote.Enum.Bare.{sameb}
use Rattle.std.specs.Int.{from_bool}
use Rattle.std.proofs.Common.{◌≡◌, ℕ, ◌+◌, ◌-◌, ◌<◌, ◌≤◌, Bool, List, [], ◌∷◌, ◌++◌, length, take, get_or, slice_range, arith, refl, sym, ap, ◌∙◌}
use Rattle.std.proofs.Math.Seq.{take-add}
use Rattle.std.proofs.lemmas.List.{take_more, take_all, length-take-le}
use Rattle.fuun_base.specs.contracts.letters.Base.{the_type}
use Rattle.fuun_base.specs.declared.letters.Base.{Base}
use Rattle.fuun_base.specs.declared.letters.Base.TheVariants.{I, C, F, P}
use Rattle.fuun_base.specs.declared.tally.Tally.{Tally}
use Rattle.fuun_base.specs.Tally.{tally_of_one, tally_of, tally_sum, tally_total}

-- tallies with the same four counts are equal
pub same_tally : (s t : Tally) → s.i ≡ t.i → s.c ≡ t.c → s.f ≡ t.f → s.p ≡ t.p → s ≡ t
same_tally s t i c f p =
    ap (λ n. let u : Tally = record { i = n; c = s.c; f = s.f; p = s.p } in u) i
    ∙ ap (λ n. let u : Tally = record { i = t.i; c = n; f = s.f; p = s.p } in u) c
    ∙ ap (λ n. let u : Tally = record { i = t.i; c = t.c; f = n; p = s.p } in u) f
    ∙ ap (λ n. let u : Tally = record { i = t.i; c = t.c; f = t.f; p = n } in u) p

pub tally_of-append : (a b : List Base) → tally_of (a ++ b) ≡ tally_sum (tally_of a) (tally_of b)
tally_of-append [] b = same_tally (tally_of b) (tally_sum (tally_of []) (tally_of b)) (omega arith) (omega arith) (omega arith) (omega arith)
tally_of-append (x ∷ a) b =
    rw (tally_of-append a b) (same_tally (tally_sum (tally_of_one x) (tally_sum (tally_of a) (tally_of b))) (tally_sum (tally_sum (tally_of_one x) (tally_of a)) (tally_of b)) (omega arith) (omega arith) (omega arith) (omega arith))

pub tally_total-one : (b : Base) → tally_total (tally_of_one b) ≡ 1
tally_total-one I = refl
tally_total-one C = refl
tally_total-one F = refl
tally_total-one P = refl

pub tally_total-tally_of : (d : List Base) → tally_total (tally_of d) ≡ length d
tally_total-tally_of [] = refl
tally_total-tally_of (x ∷ d) = omega (arith, tally_total-one x, tally_total-tally_of d)

pub tally_of_more : (d : List Base) (i : ℕ) (b : Base) → i < length d → tally_of (take (i + 1) d) ≡ tally_sum (tally_of (take i d)) (tally_of_one (get_or d i b))
tally_of_more d i b within =
    rw (take_more d i b within) (rw (tally_of-append (take i d) (get_or d i b ∷ [])) (same_tally (tally_sum (tally_of (take i d)) (tally_sum (tally_of_one (get_or d i b)) (tally_of []))) (tally_sum (tally_of (take i d)) (tally_of_one (get_or d i b))) (omega arith) (omega arith) (omega arith) (omega arith)))

-- whether a base is C, F or P, as a number
c_of : (b : Base) → from_bool (sameb the_type b C) ≡ (tally_of_one b).c
c_of I = refl
c_of C = refl
c_of F = refl
c_of P = refl

f_of : (b : Base) → from_bool (sameb the_type b F) ≡ (tally_of_one b).f
f_of I = refl
f_of C = refl
f_of F = refl
f_of P = refl

p_of : (b : Base) → from_bool (sameb the_type b P) ≡ (tally_of_one b).p
p_of I = refl
p_of C = refl
p_of F = refl
p_of P = refl

pub is_c : (b : Base) (same : Bool) (one : ℕ) → same ≡ sameb the_type b C → one ≡ from_bool same → one ≡ (tally_of_one b).c
is_c b same one is counts = counts ∙ ap from_bool is ∙ c_of b

pub is_f : (b : Base) (same : Bool) (one : ℕ) → same ≡ sameb the_type b F → one ≡ from_bool same → one ≡ (tally_of_one b).f
is_f b same one is counts = counts ∙ ap from_bool is ∙ f_of b

pub is_p : (b : Base) (same : Bool) (one : ℕ) → same ≡ sameb the_type b P → one ≡ from_bool same → one ≡ (tally_of_one b).p
is_p b same one is counts = counts ∙ ap from_bool is ∙ p_of b

-- a front's counts, one after the other, add up to its length
pub front_total : (d : List Base) (i : ℕ) → i ≤ length d → tally_total (tally_of (take i d)) ≡ i
front_total d i within = tally_total-tally_of (take i d) ∙ length-take-le i d within

pub tally_of_whole : (d : List Base) (i : ℕ) → length d ≤ i → tally_of (take i d) ≡ tally_of d
tally_of_whole d i past = ap tally_of (take_all i d past)

-- the tally of a front and of the part behind it
pub tally_of_part : (d : List Base) (done end : ℕ) → done ≤ end → tally_of (take end d) ≡ tally_sum (tally_of (take done d)) (tally_of (slice_range d done end))
tally_of_part d done end order =
    let whole : done + (end - done) ≡ end = omega arith in
    ap (λ n. tally_of (take n d)) (sym whole) ∙ ap tally_of (take-add done (end - done) d) ∙ tally_of-append (take done d) (slice_range d done end)
