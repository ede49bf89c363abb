use Rattle.std.proofs.Common.{◌≡◌, inl, inr, arith, take, drop, ◌∷◌, subst, false}
use Rattle.std.proofs.lemmas.Bool.{cases_lt}
use Rattle.match_text.specs.Way.{is_stretch, parts}
use Rattle.match_text.proofs.WayLemmas.{bases_first, plain_first}
use Rattle.match_text.proofs.way.part_len.Goals as goal

pub returns-clause-first : goal.returns-clause-first
returns-clause-first c =
    let items = c.args.items.now in
    let n = c.bases_ahead.result in
    elim (cases_lt 0 n) [
      | inl some ↦ let same : n ≡ c.max.result = omega (arith, c.max.ensures, some) in
          subst (λ k. parts items ≡ take k items ∷ parts (drop k items)) same (bases_first items n some c.bases_ahead.ensures.within c.bases_ahead.ensures.bases c.bases_ahead.ensures.longest)
      | inr none ↦ let one : 1 ≡ c.max.result = omega (arith, c.max.ensures, none) in
          let nothing : n ≡ 0 = omega (arith, none) in
          subst (λ k. parts items ≡ take k items ∷ parts (drop k items)) one (plain_first items c.requires (subst (λ k. is_stretch (drop k items) ≡ false) nothing c.bases_ahead.ensures.longest))
    ]
