-- Items that go through cells do so in one way.
use Rattle.std.proofs.Common.{◌≡◌, ℕ, inl, inr, Some, List, [], ◌∷◌, get_or, arith, sym, subst, ◌∙◌}
use Rattle.std.proofs.lemmas.Bool.{cases_lt}
use Rattle.std.proofs.lemmas.Option.{none-some, slice_get_past, slice_get-get_or}
use Rattle.fuun_base.specs.declared.letters.Base.{Base}
use Rattle.fuun_base.specs.declared.letters.Base.TheVariants.{I}
use Rattle.dna_items.specs.declared.items.PatItem.{PatItem}
use Rattle.dna_items.specs.declared.items.PatItem.TheVariants.{Base as Literal, Skip, Search, GroupStart, GroupStop}
use Rattle.matcher.proofs.Places.{meets_same, through_same}
use Rattle.sym_strand.specs.declared.cells.Cell.{Cell}
use Rattle.sym_strand.specs.declared.cells.Cell.TheVariants.{Known, Target}
use Rattle.explainer.specs.Filling.{fill}
use Rattle.explainer.specs.Windows.{IsSure, IsOut, IsUnsure}
use Rattle.explainer.specs.Leading.{Leads, Fails, Depends, LeadAlong, DependAlong}
use Rattle.explainer.specs.Laws.{LeadsAreNoFailures, LeadsDoNotDepend, FailuresDoNotDepend}
use Rattle.explainer.proofs.Filled.{leads_filled, along_filled, fails_filled, fail_filled}

known_is : (c b : Base) → ◌≡◌ (Some (Known c)) (Some (Known b)) → c ≡ b
known_is c b e = cc

pub leads_same : (z : List Cell) (item : PatItem) (i j k : ℕ) → Leads z item i j → Leads z item i k → j ≡ k
leads_same z item i j k x y = meets_same (fill [] z) item i j k (leads_filled [] z item i j x) (leads_filled [] z item i k y)

pub along_same : (z : List Cell) (items : List PatItem) (i : ℕ) (a b : List ℕ) → LeadAlong z items i a → LeadAlong z items i b → a ≡ b
along_same z items i a b x y = through_same (fill [] z) items i a b (along_filled [] z items i a x) (along_filled [] z items i b y)

sure_not_out : (s : List Base) (z : List Cell) (place : ℕ) → IsSure s z place → IsOut s z place → ⊥
sure_not_out s z place sure out =
    out.differ (known_is out.seen out.sought (sym out.there ∙ sure.there out.at out.sought out.asks))

unsure_not_out : (s : List Base) (z : List Cell) (place : ℕ) → IsUnsure s z place → IsOut s z place → ⊥
unsure_not_out s z place unsure out = out.differ (unsure.agree out.at out.sought out.seen out.asks out.there)

sure_not_unsure : (s : List Base) (z : List Cell) (place : ℕ) → IsSure s z place → IsUnsure s z place → ⊥
sure_not_unsure s z place sure unsure =
    let here = sure.there unsure.at (get_or s unsure.at I) (slice_get-get_or s unsure.at I unsure.inside) in
    let there = unsure.there in cc

leads_no_depends : (z : List Cell) (item : PatItem) (i j : ℕ) → Leads z item i j → Depends z item i → ⊥
leads_no_depends z (Literal b) i j x y = let here = x.0 in let there = y.1 in cc
leads_no_depends z (Skip n) i j x y = y
leads_no_depends z (Search s) i j x y =
    let p : ℕ = x.0 in let q : ℕ = y.0 in
    elim (cases_lt p q) [
      | inl before ↦ sure_not_out s z p x.1.sure (y.1.out p x.1.after before)
      | inr rest ↦ elim (cases_lt q p) [
        | inl behind ↦ unsure_not_out s z q y.1.unsure (x.1.out q y.1.after behind)
        | inr past ↦ let same : p ≡ q = omega arith in sure_not_unsure s z q (subst (IsSure s z) same x.1.sure) y.1.unsure
      ]
    ]
leads_no_depends z GroupStart i j x y = y
leads_no_depends z GroupStop i j x y = y

fails_no_depends : (z : List Cell) (item : PatItem) (i : ℕ) → Fails z item i → Depends z item i → ⊥
fails_no_depends z (Literal b) i (inl past) y = none-some (Target y.0) (sym (slice_get_past z i past) ∙ y.1)
fails_no_depends z (Literal b) i (inr other) y = let here = other.1 in let there = y.1 in cc
fails_no_depends z (Skip n) i x y = y
fails_no_depends z (Search s) i x y = unsure_not_out s z y.0 y.1.unsure (x y.0 y.1.after y.1.unsure.within)
fails_no_depends z GroupStart i x y = y
fails_no_depends z GroupStop i x y = y

leads_no_fails : (z : List Cell) (item : PatItem) (i j : ℕ) → Leads z item i j → Fails z item i → ⊥
leads_no_fails z item i j x y = fails_filled [] z item i y j (leads_filled [] z item i j x)

pub leads_no_failure : LeadsAreNoFailures
leads_no_failure z items i places x y = fail_filled [] z items i y places (along_filled [] z items i places x)

pub leads_no_dependence : LeadsDoNotDepend
leads_no_dependence z [] i places x y = y
leads_no_dependence z (item ∷ items) i [] x y = x
leads_no_dependence z (item ∷ items) i (j ∷ places) x (inl here) = leads_no_depends z item i j x.0 here
leads_no_dependence z (item ∷ items) i (j ∷ places) x (inr on) =
    leads_no_dependence z items j places x.1 (subst (DependAlong z items) (leads_same z item i on.0 j on.1 x.0) on.2)

pub failures_no_dependence : FailuresDoNotDepend
failures_no_dependence z [] i x y = x
failures_no_dependence z (item ∷ items) i (inl fails) (inl depends) = fails_no_depends z item i fails depends
failures_no_dependence z (item ∷ items) i (inl fails) (inr on) = leads_no_fails z item i on.0 on.1 fails
failures_no_dependence z (item ∷ items) i (inr on) (inl depends) = leads_no_depends z item i on.0 on.1 depends
failures_no_dependence z (item ∷ items) i (inr a) (inr b) =
    failures_no_dependence z items a.0 a.2 (subst (DependAlong z items) (leads_same z item i b.0 a.0 b.1 a.1) b.2)
