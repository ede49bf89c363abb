use Rattle.std.proofs.Common.{◌++◌, ap}
use Rattle.source_tokens.specs.Plain.{plain, text, turn_of}
use Rattle.std.specs.Prelude.{false}
use Rattle.source_tokens.proofs.plain.plain_text.Goals as goal

pub bytes-init : goal.bytes-init
unfolding plain
bytes-init c = ap (λ out. out ++ text (turn_of false false) c.args.bytes.now) c.in_ok-out.ensures.items
