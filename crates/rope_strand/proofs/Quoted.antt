-- Quotes of parts of joined lists.
use Rattle.std.proofs.Common.{◌≡◌, ℕ, ◌-◌, ◌≤◌, List, ◌++◌, length, take, drop, slice_range, arith, ap, ◌∙◌, sym, append_assoc, length-drop}
use Rattle.std.proofs.lemmas.List.{take_all}
use Rattle.fuun_base.specs.declared.letters.Base.{Base}
use Rattle.fuun_base.specs.Quote.{quote}
use Rattle.fuun_base.proofs.QuoteLemmas.{quote-append}
use Rattle.rope_core.proofs.Cuts.{cuts, range_over}

pub ruleset quoted_parts = (quote-append, cuts)

pub quoted_both : (l r old mid new : List Base) (lo hi seam : ℕ) → seam ≡ length l → lo ≤ seam → seam ≤ hi → mid ≡ old ++ quote (slice_range l lo seam) → new ≡ mid ++ quote (slice_range r 0 (hi - seam)) → new ≡ old ++ quote (slice_range (l ++ r) lo hi)
quoted_both l r old mid new lo hi seam here before past first second =
    let left : slice_range l lo seam ≡ drop lo l = take_all (seam - lo) (drop lo l) (omega (arith, length-drop lo l)) in
    let size : hi - seam - 0 ≡ hi - length l = omega arith in
    let right : slice_range r 0 (hi - seam) ≡ take (hi - length l) r = ap (λ n. take n r) size in
    let whole : slice_range (l ++ r) lo hi ≡ drop lo l ++ take (hi - length l) r = range_over lo hi l r (omega arith) (omega arith) in
    second
    ∙ ap (λ x. x ++ quote (slice_range r 0 (hi - seam))) first
    ∙ append_assoc old (quote (slice_range l lo seam)) (quote (slice_range r 0 (hi - seam)))
    ∙ ap (λ x. old ++ (quote x ++ quote (slice_range r 0 (hi - seam)))) left
    ∙ ap (λ x. old ++ (quote (drop lo l) ++ quote x)) right
    ∙ ap (λ x. old ++ x) (sym (quote-append (drop lo l) (take (hi - length l) r)))
    ∙ ap (λ x. old ++ quote x) (sym whole)
