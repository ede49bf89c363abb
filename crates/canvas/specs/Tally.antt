-- What a bucket keeps of its inks.
use Rattle.std.specs.Prelude.{◌≡◌, ℕ, List, length, map, sum}
use Rattle.rna_code.specs.declared.acts.Ink.{Ink}
use Rattle.canvas.specs.declared.average.Average.{Average}
use Rattle.canvas.specs.Buckets.{colours, alphas}

-- the total of some numbers and how many there are
abbrev pub IsTotal : List ℕ → Average → Type 0
IsTotal xs a = (a.total ≡ sum xs) × (a.count ≡ length xs)

-- the totals of a bucket's red, green, blue and alpha
pub record IsTally (inks : List Ink) (red green blue alpha : Average) : Type 0 where
  pub red_total : IsTotal (map (λ c. c.red) (colours inks)) red
  pub green_total : IsTotal (map (λ c. c.green) (colours inks)) green
  pub blue_total : IsTotal (map (λ c. c.blue) (colours inks)) blue
  pub alpha_total : IsTotal (alphas inks) alpha
