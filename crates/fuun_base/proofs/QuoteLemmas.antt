-- Quoting of lists.
use Rattle.std.proofs.Common.{◌≡◌, ℕ, zero, suc, ◌+◌, ◌*◌, ◌-◌, ◌<◌, ◌≤◌, List, [], ◌∷◌, ◌++◌, length, take, drop, set, replicate, get_or, arith, refl, sym, ap, ◌∙◌, add-one, append_assoc, append-nil, length-append, drop-cons}
use Rattle.std.proofs.Math.Seq.{set-append_seam}
use Rattle.std.proofs.lemmas.List.{take_more}
use Rattle.fuun_base.specs.declared.letters.Base.{Base}
use Rattle.fuun_base.specs.declared.letters.Base.TheVariants.{I, C, F, P}
use Rattle.fuun_base.specs.declared.tally.Tally.{Tally}
use Rattle.fuun_base.specs.Quote.{quote_of, quote, protect}
use Rattle.fuun_base.specs.Tally.{tally_of_one, tally_of, tally_sum, tally_total, tally_quoted}
use Rattle.fuun_base.proofs.Counting.{same_tally, tally_of-append, tally_total-tally_of}

pub quote-append : (a b : List Base) → quote (a ++ b) ≡ quote a ++ quote b
quote-append [] b = refl
quote-append (x ∷ a) b = rw (quote-append a b) (sym (append_assoc (quote_of x) (quote a) (quote b)))

pub quote_more : (d : List Base) (i : ℕ) (b : Base) → i < length d → quote (take (i + 1) d) ≡ quote (take i d) ++ quote_of (get_or d i b)
quote_more d i b within =
    rw (take_more d i b within) (quote-append (take i d) (get_or d i b ∷ []) ∙ ap (λ q. quote (take i d) ++ q) (append-nil (quote_of (get_or d i b))))

pub quote_rest : (d : List Base) (i : ℕ) (b : Base) → i < length d → quote (drop i d) ≡ quote_of (get_or d i b) ++ quote (drop (i + 1) d)
quote_rest d i b within = rw (add-one, drop-cons d i b within) refl

-- the first base of a quote, written where C stands as often as the quote is long
quote_filled : (front : List Base) (b : Base) (more : ℕ) → set (front ++ replicate (length (quote_of b) + more) C) (length front) (get_or (quote_of b) 0 C) ≡ (front ++ quote_of b) ++ replicate more C
quote_filled front I more =
    let long : length (quote_of I) + more ≡ suc more = omega arith in
    rw long (set-append_seam front C (replicate more C) C ∙ sym (append_assoc front (C ∷ []) (replicate more C)))
quote_filled front C more =
    let long : length (quote_of C) + more ≡ suc more = omega arith in
    rw long (set-append_seam front C (replicate more C) F ∙ sym (append_assoc front (F ∷ []) (replicate more C)))
quote_filled front F more =
    let long : length (quote_of F) + more ≡ suc more = omega arith in
    rw long (set-append_seam front C (replicate more C) P ∙ sym (append_assoc front (P ∷ []) (replicate more C)))
quote_filled front P more =
    let long : length (quote_of P) + more ≡ suc (suc more) = omega arith in
    rw long (set-append_seam front C (C ∷ replicate more C) I ∙ sym (append_assoc front (I ∷ C ∷ []) (replicate more C)))

-- the quote of one base more
pub filled_more : (d slots : List Base) (i at : ℕ) (b : Base) → i < length d → at ≡ length (quote (take i d)) → slots ≡ quote (take i d) ++ replicate (length (quote (drop i d))) C → set slots at (get_or (quote_of (get_or d i b)) 0 C) ≡ quote (take (i + 1) d) ++ replicate (length (quote (drop (i + 1) d))) C
filled_more d slots i at b within place before =
    let one = get_or d i b in
    let front : List Base = quote (take i d) in
    let long : length (quote (drop i d)) ≡ length (quote_of one) + length (quote (drop (i + 1) d)) = ap length (quote_rest d i b within) ∙ length-append (quote_of one) (quote (drop (i + 1) d)) in
    rw (before, place, long) (rw (quote_more d i b within) (quote_filled front one (length (quote (drop (i + 1) d)))))

-- only P gives two bases
length-quote_of : (b : Base) → length (quote_of b) ≡ 1 + (tally_of_one b).p
length-quote_of I = refl
length-quote_of C = refl
length-quote_of F = refl
length-quote_of P = refl

pub length-quote : (d : List Base) → length (quote d) ≡ length d + (tally_of d).p
length-quote [] = refl
length-quote (b ∷ d) = omega (arith, length-append (quote_of b) (quote d), length-quote_of b, length-quote d)

tally_of-quote_of : (b : Base) → tally_of (quote_of b) ≡ tally_quoted (tally_of_one b)
tally_of-quote_of I = refl
tally_of-quote_of C = refl
tally_of-quote_of F = refl
tally_of-quote_of P = refl

pub tally_of-quote : (d : List Base) → tally_of (quote d) ≡ tally_quoted (tally_of d)
tally_of-quote [] = refl
tally_of-quote (b ∷ d) =
    rw (tally_of-append (quote_of b) (quote d)) (rw (tally_of-quote_of b) (rw (tally_of-quote d) (same_tally (tally_sum (tally_quoted (tally_of_one b)) (tally_quoted (tally_of d))) (tally_quoted (tally_sum (tally_of_one b) (tally_of d))) (omega arith) (omega arith) (omega arith) (omega arith))))

pub protect_of-nil : (level : ℕ) → protect level [] ≡ []
unfolding protect
protect_of-nil zero = refl
protect_of-nil (suc level) = protect_of-nil level

pub protect-append : (level : ℕ) (a b : List Base) → protect level (a ++ b) ≡ protect level a ++ protect level b
unfolding protect
protect-append zero a b = refl
protect-append (suc level) a b = rw (quote-append a b) (protect-append level (quote a) (quote b))

pub protect-protect : (a b : ℕ) (d : List Base) → protect a (protect b d) ≡ protect (a + b) d
unfolding protect
protect-protect a zero d = let e : a + 0 ≡ a = omega arith in rw e refl
protect-protect a (suc b) d = let e : a + suc b ≡ suc (a + b) = omega arith in rw e (protect-protect a b (quote d))

pub protect_more : (level : ℕ) (d : List Base) → protect (level + 1) d ≡ quote (protect level d)
unfolding protect
protect_more zero d = refl
protect_more (suc level) d = let e : suc level + 1 ≡ suc (level + 1) = omega arith in rw e (protect_more level (quote d))

pub length-protect_ge : (level : ℕ) (d : List Base) → length d ≤ length (protect level d)
unfolding protect
length-protect_ge zero d = omega arith
length-protect_ge (suc level) d = omega (arith, length-quote d, length-protect_ge level (quote d))

-- four quotings make at least two bases of each
protect_four_of_one : (b : Base) → 2 ≤ length (protect 4 (b ∷ []))
unfolding protect
protect_four_of_one I = omega arith
protect_four_of_one C = omega arith
protect_four_of_one F = omega arith
protect_four_of_one P = omega arith

pub protect_four : (d : List Base) → 2 * length d ≤ length (protect 4 d)
protect_four [] = omega arith
protect_four (b ∷ d) =
    omega (arith, protect_four d, protect_four_of_one b, length-append (protect 4 (b ∷ [])) (protect 4 d), ap length (protect-append 4 (b ∷ []) d))

-- what is left to quote of a list that was quoted before
protect_left : (level left : ℕ) (d : List Base) → left ≤ level → protect left (protect (level - left) d) ≡ protect level d
protect_left level left d within =
    let whole : left + (level - left) ≡ level = omega arith in
    protect-protect left (level - left) d ∙ ap (λ n. protect n d) whole

-- a tally that was reached on the way bounds the length at the end
pub total_reached : (level left : ℕ) (d : List Base) (t : Tally) → left ≤ level → tally_of (protect (level - left) d) ≡ t → tally_total t ≤ length (protect level d)
total_reached level left d t within reached =
    omega (arith, ap tally_total reached, tally_total-tally_of (protect (level - left) d), length-protect_ge left (protect (level - left) d), ap length (protect_left level left d within))

-- with no level left, the tally that was reached counts the list
pub total_at_end : (level left : ℕ) (d : List Base) (t : Tally) → left ≡ 0 → tally_of (protect (level - left) d) ≡ t → tally_total t ≡ length (protect level d)
total_at_end level left d t none reached =
    let whole : level - left ≡ level = omega arith in
    omega (arith, ap tally_total reached, tally_total-tally_of (protect (level - left) d), ap (λ n. length (protect n d)) whole)

nil_of_none : (d : List Base) → length d ≡ 0 → d ≡ []
nil_of_none [] none = refl
nil_of_none (b ∷ d) none = absurd (omega arith)

-- nothing stays nothing
pub total_of_none : (level left : ℕ) (d : List Base) (t : Tally) → left ≤ level → tally_total t ≡ 0 → tally_of (protect (level - left) d) ≡ t → tally_total t ≡ length (protect level d)
total_of_none level left d t within none reached =
    let empty : protect (level - left) d ≡ [] = nil_of_none (protect (level - left) d) (omega (arith, ap tally_total reached, tally_total-tally_of (protect (level - left) d))) in
    let still : protect level d ≡ [] = sym (protect_left level left d within) ∙ ap (λ e. protect left e) empty ∙ protect_of-nil left in
    omega (arith, ap length still)

-- one level more
pub reached_more : (level left : ℕ) (d : List Base) (t : Tally) → 0 < left → left ≤ level → tally_of (protect (level - left) d) ≡ t → tally_of (protect (level - (left - 1)) d) ≡ tally_quoted t
reached_more level left d t some within reached =
    let more : level - (left - 1) ≡ level - left + 1 = omega arith in
    ap (λ n. tally_of (protect n d)) more ∙ ap tally_of (protect_more (level - left) d) ∙ tally_of-quote (protect (level - left) d) ∙ ap tally_quoted reached
