-- A pattern has one match on a DNA at most, and it is decided whether it has one.
use Rattle.std.proofs.Common.{◌≡◌, ℕ, zero, suc, ◌+◌, ◌≤◌, ◌⊎◌, inl, inr, Some, List, [], ◌∷◌, length, arith, refl, sym, ap, subst, ◌∙◌}
use Rattle.std.specs.Prelude.{slice_get}
use Rattle.std.proofs.lemmas.Bool.{cases_lt}
use Rattle.std.proofs.lemmas.Option.{none-some, same_Some}
use Rattle.fuun_base.specs.declared.letters.Base.{Base}
use Rattle.fuun_base.proofs.OccurrenceLemmas.{base_or, first_or_absent}
use Rattle.dna_items.specs.declared.items.PatItem.{PatItem}
use Rattle.dna_items.specs.declared.items.PatItem.TheVariants.{Base as Literal, Skip, Search, GroupStart, GroupStop}
use Rattle.matcher.specs.Laws.{AtMostOneMatch, HasMatchOrNone}
use Rattle.matcher.specs.Match.{Meets, LeadThrough, HasNoMatch}
use Rattle.matcher.specs.Step.{MeetsNowhere, LeadNowhere}
use Rattle.matcher.proofs.Places.{meets_same, through_same}

pub match_is_one : AtMostOneMatch
match_is_one d items [] b x y = absurd x
match_is_one d items (i ∷ a) [] x y = absurd y
match_is_one d items (i ∷ a) (k ∷ b) x y =
    let same : i ≡ k = x.0 ∙ sym y.0 in
    let from_i : LeadThrough d items i b = subst (λ n. LeadThrough d items n b) (sym same) y.1 in
    ap (λ n. n ∷ a) same ∙ ap (λ l. k ∷ l) (through_same d items i a b x.1 from_i)

-- whether an item leads anywhere

base_at_or : (d : List Base) (i : ℕ) (b : Base) → (slice_get d i ≡ Some b) ⊎ (slice_get d i ≡ Some b → ⊥)
base_at_or [] i b = inr (λ e. none-some b e)
base_at_or (x ∷ d) zero b =
    elim (base_or x b) [
      | inl same ↦ inl (ap (λ z. Some z) same)
      | inr other ↦ inr (λ e. other (same_Some x b e))
    ]
base_at_or (x ∷ d) (suc i) b = base_at_or d i b

abbrev pub MeetsSomewhere : List Base → PatItem → ℕ → Type 0
MeetsSomewhere d item i = (j : ℕ) × Meets d item i j

pub meets_or : (d : List Base) (item : PatItem) (i : ℕ) → MeetsSomewhere d item i ⊎ MeetsNowhere d item i
meets_or d (Literal b) i =
    elim (base_at_or d i b) [
      | inl there ↦ inl (i + 1, (there, refl))
      | inr other ↦ inr (λ j leads. other leads.0)
    ]
meets_or d (Skip n) i =
    elim (cases_lt (length d) (i + n)) [
      | inl past ↦ inr (λ j leads. let e : j ≡ i + n = leads.0 in let within : j ≤ length d = leads.1 in omega arith)
      | inr within ↦ inl (i + n, (refl, within))
    ]
meets_or d (Search s) i =
    elim (first_or_absent s d i) [
      | inl found ↦ inl (found.0 + length s, (found.0, found.1, refl))
      | inr absent ↦ inr (λ j leads. absent leads.0 leads.1.after leads.1.stands)
    ]
meets_or d GroupStart i = inl (i, refl)
meets_or d GroupStop i = inl (i, refl)

abbrev ThroughSomewhere : List Base → List PatItem → ℕ → Type 0
ThroughSomewhere d items i = (places : List ℕ) × LeadThrough d items i places

nowhere_first : (d : List Base) (item : PatItem) (items : List PatItem) (i : ℕ) → MeetsNowhere d item i → LeadNowhere d (item ∷ items) i
nowhere_first d item items i none [] x = x
nowhere_first d item items i none (j ∷ places) x = none j x.0

nowhere_then : (d : List Base) (item : PatItem) (items : List PatItem) (i j : ℕ) → Meets d item i j → LeadNowhere d items j → LeadNowhere d (item ∷ items) i
nowhere_then d item items i j leads none [] x = x
nowhere_then d item items i j leads none (k ∷ places) x =
    none places (subst (λ n. LeadThrough d items n places) (meets_same d item i k j x.0 leads) x.1)

through_or : (d : List Base) (items : List PatItem) (i : ℕ) → ThroughSomewhere d items i ⊎ LeadNowhere d items i
through_or d [] i = inl ([], tt)
through_or d (item ∷ items) i =
    elim (meets_or d item i) [
      | inr none ↦ inr (nowhere_first d item items i none)
      | inl here ↦ elim (through_or d items here.0) [
        | inl further ↦ inl (here.0 ∷ further.0, (here.1, further.1))
        | inr none ↦ inr (nowhere_then d item items i here.0 here.1 none)
      ]
    ]

no_match : (d : List Base) (items : List PatItem) → LeadNowhere d items 0 → HasNoMatch d items
no_match d items none [] x = x
no_match d items none (i ∷ places) x = none places (subst (λ n. LeadThrough d items n places) x.0 x.1)

pub match_or_none : HasMatchOrNone
match_or_none d items =
    elim (through_or d items 0) [
      | inl found ↦ inl (0 ∷ found.0, (refl, found.1))
      | inr none ↦ inr (no_match d items none)
    ]
