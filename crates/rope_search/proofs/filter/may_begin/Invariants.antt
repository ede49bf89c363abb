use Rattle.std.proofs.Common.{◌≡◌, ℕ, ◌<◌}
use Rattle.rope_search.specs.Sought.{Begins}
use Rattle.rope_search.proofs.filter.may_begin.Given as goal

abbrev pub invariant-loop-place : goal.invariant-loop-place
invariant-loop-place g l = l.hits ≡ 0 → (p : ℕ) → p < l.place → Begins l.needle l.block p → ⊥
