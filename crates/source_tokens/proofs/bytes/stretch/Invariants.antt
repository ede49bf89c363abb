use Rattle.std.proofs.Common.{◌≡◌, ◌+◌, drop}
use Rattle.std.specs.List.{prefix_len}
use Rattle.source_tokens.specs.Bytes.{is_of}
use Rattle.source_tokens.proofs.bytes.stretch.Given as goal

abbrev pub invariant-stretch : goal.invariant-stretch
invariant-stretch l = l.place + prefix_len (is_of l.kind) (drop l.place l.bytes) ≡ prefix_len (is_of l.kind) l.bytes
