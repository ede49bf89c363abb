use Rattle.std.proofs.Common.{◌≡◌, fold, take}
use Rattle.source_tokens.specs.Names.{with_text}
use Rattle.source_tokens.proofs.names.Names.add_all.Given as goal

abbrev pub invariant-names : goal.invariant-names
invariant-names l = l.self ≡ fold with_text l.fn.self (take l.name-index l.names)
