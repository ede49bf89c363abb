use Rattle.std.proofs.Common.{◌≡◌, ℕ, ◌+◌, ◌-◌, get_or, length}
use Rattle.source_text.specs.declared.names.Known.TheVariants.{Unknown}
use Rattle.source_text.proofs.names.make_room.Given as goal

abbrev pub invariant-room : goal.invariant-room
invariant-room l = (k : ℕ) → get_or l.known.items k Unknown ≡ get_or l.fn.known.items k Unknown

abbrev pub decreases-room : goal.decreases-room
decreases-room l = l.id + 1 - length l.known.items
