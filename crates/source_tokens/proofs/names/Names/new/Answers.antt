use Rattle.std.proofs.Common.{◌≡◌, [], rules}
use Rattle.source_tokens.specs.Names.{first_names}
use Rattle.source_tokens.proofs.names.Names.new.Goals as goal

pub returns : goal.returns
unfolding first_names
returns c =
    let none : c.new.result.keys ≡ [] = search rules in
    rw none at c.in_ok-add_all.ensures
