-- How far the places of a list of bases repeat its first ones.
use Rattle.std.proofs.Common.{◌≡◌, ℕ, zero, suc, ◌+◌, ◌-◌, ◌<◌, ◌≤◌, inl, inr, List, [], ◌∷◌, ◌++◌, length, get_or, arith, refl, sym, ap, subst, ◌∙◌, length-append}
use Rattle.std.proofs.lemmas.Bool.{cases_lt}
use Rattle.fuun_base.specs.declared.letters.Base.{Base}
use Rattle.fuun_base.specs.declared.letters.Base.TheVariants.{I}
use Rattle.explainer.specs.Repeats.{IsSame, IsFront, FrontsTo}

get_front_or : (xs : List ℕ) (y at : ℕ) → at < length xs → get_or (xs ++ y ∷ []) at 0 ≡ get_or xs at 0
get_front_or [] y at less = absurd (omega arith)
get_front_or (x ∷ xs) y zero less = refl
get_front_or (x ∷ xs) y (suc at) less = get_front_or xs y at (omega arith)

get_last_or : (xs : List ℕ) (y : ℕ) → get_or (xs ++ y ∷ []) (length xs) 0 ≡ y
get_last_or [] y = refl
get_last_or (x ∷ xs) y = get_last_or xs y

pub fronts_more : (s : List Base) (fronts later : List ℕ) (same : ℕ) → FrontsTo s fronts → later ≡ fronts ++ same ∷ [] → IsFront s (length fronts) same → FrontsTo s later
fronts_more s fronts later same far is here =
    subst (FrontsTo s) (sym is)
    (λ at less. elim (cases_lt at (length fronts)) [
      | inl before ↦ subst (IsFront s at) (sym (get_front_or fronts same at before)) (far at before)
      | inr past ↦
          let last : length fronts ≡ at = omega (arith, length-append fronts (same ∷ [])) in
          subst (λ n. IsFront s n (get_or (fronts ++ same ∷ []) n 0)) last (subst (IsFront s (length fronts)) (sym (get_last_or fronts same)) here)
    ])

-- what is copied from the place that is as far from the start of a known range
pub same_within : (s : List Base) (start end at front known : ℕ) → IsSame s start (end - start) → start ≤ at → at < end → IsSame s (at - start) front → known ≤ front → known ≤ end - at → IsSame s at known
same_within s start end at front known range after before copied less fits k inside =
    let there : start + (at - start + k) ≡ at + k = omega arith in
    ap (λ n. get_or s n I) (sym there) ∙ range (at - start + k) (omega arith) ∙ copied k (omega arith)

pub same_none : (s : List Base) (at : ℕ) → IsSame s at 0
same_none s at k inside = absurd (omega arith)

pub get_any : (xs : List ℕ) (i d e : ℕ) → i < length xs → get_or xs i d ≡ get_or xs i e
get_any [] i d e inside = absurd (omega arith)
get_any (x ∷ xs) zero d e inside = refl
get_any (x ∷ xs) (suc i) d e inside = get_any xs i d e (omega arith)
