use Rattle.std.proofs.Common.{◌-◌, ap, sym, ◌∙◌, length}
use Rattle.sym_strand.specs.Segments.{cells_in}
use Rattle.sym_strand.proofs.Places.{length-places}
use Rattle.sym_strand.proofs.segments.Seg.len.Goals as goal

pub returns-in-Target : goal.returns-in-Target
returns-in-Target c = c.saturating_sub.ensures ∙ sym (length-places c.in-Target.lo (c.in-Target.hi - c.in-Target.lo)) ∙ ap (λ s. length (cells_in s)) (sym c.in-Target.is)
