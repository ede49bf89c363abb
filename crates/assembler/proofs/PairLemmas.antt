-- Lines and the pairs whose texts they are.
use Rattle.std.proofs.Common.{◌≡◌, ℕ, zero, suc, ◌+◌, ◌-◌, ◌≤◌, ◌⊎◌, inl, inr, codes, List, [], ◌∷◌, ◌++◌, length, take, drop, get_or, arith, refl, sym, ap, subst, ◌∙◌, append-nil}
use Rattle.std.proofs.lemmas.Bool.{cases_Bool, cases_eq, cases_lt, both_ways}
use Rattle.std.proofs.Math.Seq.{take-nil}
use Rattle.dna_items.specs.Balance.{IsBalanced, start_of, stop_of, starts, stops}
use Rattle.dna_items.specs.declared.items.PatItem.{PatItem}
use Rattle.dna_items.specs.declared.items.TplItem.{TplItem}
use Rattle.dna_reader.specs.Codes.{has_search_before_base, IsReadable}
use Rattle.listing.specs.Texts.{pattern_item_text, template_item_text, pattern_text, template_text}
use Rattle.assembler.specs.Ahead.{Runs, pattern_item_ahead, template_item_ahead}
use Rattle.assembler.specs.Answers.{Pair}
use Rattle.assembler.specs.Laws.{TextIsOfOne}
use Rattle.assembler.specs.Pairs.{HasSmallSkip, HasSmallNumbers, IsPair, IsNoPair, HasNoDna}
use Rattle.assembler.proofs.ItemLemmas.{pattern_reader, template_reader, no_item_in_arrow}
use Rattle.assembler.proofs.Readers.{runs_to, runs_from, runs_of, runs_once}

abbrev arrow : List ℕ
arrow = codes " -> "

-- what was read makes the line
pub pair_to : (line : List ℕ) (pattern : List PatItem) (template : List TplItem) (rest : List ℕ) → Runs pattern_item_ahead line pattern (arrow ++ rest) → Runs template_item_ahead rest template [] → IsPair line pattern template
pair_to line pattern template rest first second =
    let p = runs_to pattern_item_text HasSmallSkip pattern_item_ahead pattern_reader line pattern (arrow ++ rest) first in
    let t = runs_to template_item_text HasSmallNumbers template_item_ahead template_reader rest template [] second in
    record {
      text = p.1 ∙ ap (λ l. pattern_text pattern ++ (arrow ++ l)) (t.1 ∙ append-nil (template_text template));
      small_pattern = p.0;
      small_template = t.0;
    }

-- and of a pair's text it is the pair
pattern_in : (line : List ℕ) (pattern : List PatItem) (template : List TplItem) → IsPair line pattern template → Runs pattern_item_ahead line pattern (arrow ++ template_text template)
pattern_in line pattern template pair =
    let rest : List ℕ = arrow ++ template_text template in
    subst (λ l. Runs pattern_item_ahead l pattern rest) (sym pair.text)
    (runs_from pattern_item_text HasSmallSkip pattern_item_ahead pattern_reader pattern rest pair.small_pattern refl (no_item_in_arrow (template_text template)))

template_in : (line : List ℕ) (pattern : List PatItem) (template : List TplItem) → IsPair line pattern template → Runs template_item_ahead (template_text template) template []
template_in line pattern template pair =
    subst (λ l. Runs template_item_ahead l template []) (append-nil (template_text template))
    (runs_from template_item_text HasSmallNumbers template_item_ahead template_reader template [] pair.small_template tt template_reader.none)

-- no arrow stands behind the items
pub no_arrow : (line : List ℕ) (items : List PatItem) (rest : List ℕ) → Runs pattern_item_ahead line items rest → ((more : List ℕ) → rest ≡ arrow ++ more → ⊥) → IsNoPair line
no_arrow line items rest runs none pattern template pair =
    none (template_text template) (runs_once pattern_item_ahead line items pattern rest (arrow ++ template_text template) runs (pattern_in line pattern template pair)).1

-- something stands behind the items of the template
pub more_left : (line : List ℕ) (items : List PatItem) (rest : List ℕ) (puts : List TplItem) (left : List ℕ) → Runs pattern_item_ahead line items (arrow ++ rest) → Runs template_item_ahead rest puts left → (left ≡ [] → ⊥) → IsNoPair line
more_left line items rest puts left first second some pattern template pair =
    let same : arrow ++ rest ≡ arrow ++ template_text template =
    (runs_once pattern_item_ahead line items pattern (arrow ++ rest) (arrow ++ template_text template) first (pattern_in line pattern template pair)).1 in
    let rest_is : rest ≡ template_text template = ap (drop 4) same in
    some (runs_once template_item_ahead (template_text template) puts template left [] (subst (λ l. Runs template_item_ahead l puts left) rest_is second) (template_in line pattern template pair)).1

pub one_pair : TextIsOfOne
one_pair line a b x y =
    let first = runs_once pattern_item_ahead line a.0 b.0 (arrow ++ template_text a.1) (arrow ++ template_text b.1) (pattern_in line a.0 a.1 x) (pattern_in line b.0 b.1 y) in
    let rest_is : template_text a.1 ≡ template_text b.1 = ap (drop 4) first.1 in
    let second = runs_once template_item_ahead (template_text b.1) a.1 b.1 [] [] (subst (λ l. Runs template_item_ahead l a.1 []) rest_is (template_in line a.0 a.1 x)) (template_in line b.0 b.1 y) in
    let make : List PatItem → List TplItem → Pair = λ p t. (p, t) in
    ap (λ p. make p a.1) first.0 ∙ ap (λ t. make b.0 t) second.0

-- each line is the text of a pair or of none

front_cases : (front bytes : List ℕ) → ((more : List ℕ) × (bytes ≡ front ++ more)) ⊎ ((more : List ℕ) → bytes ≡ front ++ more → ⊥)
front_cases [] bytes = inl (bytes, refl)
front_cases (byte ∷ front) [] = inr (λ more e. omega (arith, ap length e))
front_cases (byte ∷ front) (first ∷ bytes) =
    elim (cases_eq first byte) [
      | inl same ↦
          elim (front_cases front bytes) [
            | inl found ↦ inl (found.0, ap (λ b. b ∷ bytes) same ∙ ap (λ l. byte ∷ l) found.1)
            | inr none ↦ inr (λ more e. none more (ap (drop 1) e))
          ]
      | inr other ↦ inr (λ more e. other (ap (λ l. get_or l 0 0) e))
    ]

nil_cases : (left : List ℕ) → (left ≡ []) ⊎ (left ≡ [] → ⊥)
nil_cases [] = inl refl
nil_cases (byte ∷ left) = inr (λ e. omega (arith, ap length e))

pub pair_cases : (line : List ℕ) → IsNoPair line ⊎ ((pair : Pair) × IsPair line pair.0 pair.1)
pair_cases line =
    let first = runs_of pattern_item_text HasSmallSkip pattern_item_ahead pattern_reader line in
    elim (front_cases arrow first.1) [
      | inr none ↦ inl (no_arrow line first.0 first.1 first.2 none)
      | inl found ↦
          let behind : Runs pattern_item_ahead line first.0 (arrow ++ found.0) = subst (λ l. Runs pattern_item_ahead line first.0 l) found.1 first.2 in
          let second = runs_of template_item_text HasSmallNumbers template_item_ahead template_reader found.0 in
          elim (nil_cases second.1) [
            | inl none ↦ inr ((first.0, second.0), pair_to line first.0 second.0 found.0 behind (subst (λ l. Runs template_item_ahead found.0 second.0 l) none second.2))
            | inr some ↦ inl (more_left line first.0 found.0 second.0 second.1 behind second.2 some)
          ]
    ]

-- each pattern can be read or has no DNA

-- the items close the groups that are open
abbrev Closes : ℕ → List PatItem → Type 0
Closes groups items = (groups + starts items ≡ stops items) × ((n : ℕ) → stops (take n items) ≤ groups + starts (take n items))

closes_none : (n groups : ℕ) → stops (take n []) ≤ groups + starts (take n [])
closes_none n groups = rw (take-nil {A = PatItem} n) (omega arith)

closes_cases : (groups : ℕ) (items : List PatItem) → Closes groups items ⊎ (Closes groups items → ⊥)
closes_cases groups [] =
    elim (cases_eq groups 0) [
      | inl none ↦ inl (omega arith, λ n. closes_none n groups)
      | inr some ↦ inr (λ c. some (omega (arith, c.0)))
    ]
closes_cases groups (x ∷ items) =
    elim (cases_lt (groups + start_of x) (stop_of x)) [
      | inl past ↦ inr (λ c. omega (arith, c.1 1))
      | inr within ↦
          elim (closes_cases (groups + start_of x - stop_of x) items) [
            | inl c ↦ inl (omega (arith, c.0), elim [ zero ↦ omega arith | suc n ↦ omega (arith, c.1 n) ])
            | inr bars ↦ inr (λ c. bars (omega (arith, c.0), λ n. omega (arith, c.1 (suc n))))
          ]
    ]

balanced_from : (items : List PatItem) → Closes 0 items → IsBalanced items
balanced_from items c = record { even = omega (arith, c.0); fronts = λ n. omega (arith, c.1 n) }

balanced_to : (items : List PatItem) → IsBalanced items → Closes 0 items
balanced_to items b = (omega (arith, b.even), λ n. omega (arith, b.fronts n))

pub readable_cases : (pattern : List PatItem) → IsReadable pattern ⊎ HasNoDna pattern
readable_cases pattern =
    elim (closes_cases 0 pattern) [
      | inr open_groups ↦ inr (inl (λ b. open_groups (balanced_to pattern b)))
      | inl closed ↦
          elim (cases_Bool (has_search_before_base pattern)) [
            | inl is ↦ inr (inr is)
            | inr is ↦ inl (record { balanced = balanced_from pattern closed; apart = is })
          ]
    ]

-- and not both
pub not_both : (pattern : List PatItem) → IsReadable pattern → HasNoDna pattern → ⊥
not_both pattern readable (inl bars) = bars readable.balanced
not_both pattern readable (inr is) = both_ways (has_search_before_base pattern) readable.apart is
