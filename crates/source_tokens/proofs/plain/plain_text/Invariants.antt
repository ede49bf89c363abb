use Rattle.std.proofs.Common.{◌≡◌, ◌++◌, drop}
use Rattle.source_tokens.specs.Plain.{plain, text}
use Rattle.source_tokens.proofs.plain.plain_text.Given as goal

abbrev pub invariant-bytes : goal.invariant-bytes
invariant-bytes l = l.out.items ++ text l.turn (drop l.place l.bytes) ≡ plain l.bytes
