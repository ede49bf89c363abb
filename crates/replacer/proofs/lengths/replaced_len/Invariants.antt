use Rattle.std.proofs.Common.{◌≡◌, ◌+◌, ◌≤◌, length, drop}
use Rattle.replacer.specs.Replacement.{replacement, texts_of, replaced}
use Rattle.replacer.proofs.lengths.replaced_len.Given as goal

abbrev pub invariant-loop-item : goal.invariant-loop-item
invariant-loop-item g l = record {
  most : l.len ≤ l.limit;
  sum : l.len + length (replacement (texts_of (g.S.Strand.bases l.s) l.groups) (drop l.item-index l.tpl))
      ≡ length (replaced (g.S.Strand.bases l.s) l.tpl l.groups l.stop);
}
