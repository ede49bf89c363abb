-- The costs of a template's items, and the weight.
use Rattle.std.proofs.Common.{◌≡◌, ℕ, suc, ◌+◌, ◌*◌, ◌/◌, ◌<◌, ◌≤◌, List, [], ◌∷◌, length, drop, get_or, max, arith, ap}
use Rattle.std.proofs.Math.Nat.{add-mul, mul-le-mul_left}
use Rattle.std.proofs.lemmas.List.{drop_more}
use Rattle.fuun_base.specs.declared.letters.Base.{Base}
use Rattle.fuun_base.specs.Ticks.{Ticks}
use Rattle.dna_items.specs.declared.items.TplItem.{TplItem}
use Rattle.replacer.specs.Weight.{quoted_bases, weight_but_a_cut}
use Rattle.replacer.specs.Costs.{item_cost, cost}

-- from an item on: its cost, and those of the later ones
pub cost_more : (height : ℕ) (texts : List (List Base)) (items : List TplItem) (i : ℕ) (item : TplItem) → i < length items → cost height texts (drop i items) ≡ item_cost height texts (get_or items i item) + cost height texts (drop (i + 1) items)
cost_more height texts items i item within = ap (cost height texts) (drop_more items i item within)

pub cost_of_all : (height : ℕ) (texts : List (List Base)) (items : List TplItem) → cost height texts items ≤ 128 * (length items * (height + 2)) + 4 * (quoted_bases texts items / 512)
cost_of_all height texts [] = omega arith
cost_of_all height texts (item ∷ items) =
    let more : suc (length items) * (height + 2) ≡ length items * (height + 2) + (height + 2) = omega arith in
    omega (arith, more, cost_of_all height texts items)

-- the items, the build and the join behind them, the cut of the rest and its join
pub within_weight : (items quoted low height : ℕ) → low ≤ height → 128 * (items * (low + 2)) + 4 * (quoted / 512) + 70 * (low + 1) ≤ weight_but_a_cut items quoted height
within_weight items quoted low height less =
    let more : (items + 2) * (height + 2) ≡ items * (height + 2) + 2 * (height + 2) = add-mul items 2 (height + 2) in
    let higher : items * (low + 2) ≤ items * (height + 2) = mul-le-mul_left items (omega arith) in
    let factor : 128 * (items + 2) * (height + 2) ≡ 128 * ((items + 2) * (height + 2)) = omega arith in
    omega arith

-- what was counted is within the weight, at the bound on heights for any length that is no less
pub counted : (bound : ℕ → ℕ) → ((m n : ℕ) → m ≤ n → bound m ≤ bound n) → (texts : List (List Base)) (items : List TplItem) (old new a b : ℕ)
    → old ≤ new → new ≤ old + (cost (bound (max a b)) texts items + 70 * (bound (max a b) + 1))
    → (most : ℕ) → a ≤ most → b ≤ most → Ticks old new (weight_but_a_cut (length items) (quoted_bases texts items) (bound most))
counted bound rises texts items old new a b grows few most a_within b_within =
    let low : bound (max a b) ≤ bound most = rises (max a b) most (omega arith) in
    let all = cost_of_all (bound (max a b)) texts items in
    let within = within_weight (length items) (quoted_bases texts items) (bound (max a b)) (bound most) low in
    (grows, omega arith)
