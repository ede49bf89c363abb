-- What sums stand for. A number of a name's length is held: it is the lesser of that length and 2^63. A sum or a product of
-- held numbers is 2^63 or more exactly where that of the lengths themselves is, since 0 times any of them is 0; so all below
-- speaks of held numbers.
use Rattle.std.specs.Prelude.{ℕ, ◌+◌, ◌*◌, List, [], ◌∷◌, take}
use Rattle.source_items.specs.declared.lines.Factor.{Factor}
use Rattle.source_items.specs.declared.lines.Factor.TheVariants.{Number, Rest, Own, Next}

-- how many bases codes of these lengths have in all
abbrev pub total : List ℕ → ℕ
total [] = 0
total (len ∷ lens) = len + total lens

-- the value of a factor in a line of so many bases, with the lengths of the lines behind it, the nearest first
abbrev pub factor_value : ℕ → List ℕ → Factor → ℕ
factor_value own behind (Number n) = n
factor_value own behind Rest = total behind
factor_value own behind Own = own
factor_value own behind (Next count) = total (take count behind)

-- factors multiply
abbrev pub product_value : ℕ → List ℕ → List Factor → ℕ
product_value own behind [] = 1
product_value own behind (factor ∷ factors) = factor_value own behind factor * product_value own behind factors

-- products add up
abbrev pub sum_value : ℕ → List ℕ → List (List Factor) → ℕ
sum_value own behind [] = 0
sum_value own behind (product ∷ products) = product_value own behind product + sum_value own behind products
