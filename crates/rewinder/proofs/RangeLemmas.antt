-- Ranges that are cut short.
use Rattle.std.proofs.Common.{◌≡◌, ℕ, ◌-◌, List, length, take, drop, ap, ◌∙◌, arith, length-drop}
use Rattle.std.specs.Prelude.{slice_range, min}
use Rattle.std.proofs.lemmas.List.{take_min}
use Rattle.fuun_base.specs.declared.letters.Base.{Base}

-- a range that ends behind the end is cut short
pub range_cut : (dna : List Base) (lo hi : ℕ) → slice_range dna lo (min hi (length dna)) ≡ slice_range dna lo hi
range_cut dna lo hi =
    let rest : length (drop lo dna) ≡ length dna - lo = length-drop lo dna in
    let short : min hi (length dna) - lo ≡ min (hi - lo) (length (drop lo dna)) = omega (arith, rest) in
    ap (λ n. take n (drop lo dna)) short ∙ take_min (hi - lo) (drop lo dna)
