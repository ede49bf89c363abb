use Rattle.std.proofs.Common.{◌≡◌, ◌+◌, drop}
use Rattle.dna_items.specs.Held.{held}
use Rattle.std.specs.List.{list_all}
use Rattle.source_items.specs.Lines.{is_small_skip, skips_len}
use Rattle.source_code.proofs.lengths.skips_len.Given as goal

abbrev pub invariant-loop-skip : goal.invariant-loop-skip
invariant-loop-skip l = record {
  rest : held (l.len + skips_len l.own l.behind (drop l.skip-index l.skips)) ≡ held (skips_len l.own l.behind l.skips);
  itself : held l.len ≡ l.len;
  small : list_all (is_small_skip l.own l.behind) (drop l.skip-index l.skips) ≡ list_all (is_small_skip l.own l.behind) l.skips;
}
