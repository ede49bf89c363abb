use Rattle.std.proofs.Common.{◌≡◌, ◌∷◌, [], refl, rules}
use Rattle.source_text.specs.declared.names.Known.TheVariants.{Reserved}
use Rattle.source_text.proofs.CommandLemmas.{first_are}
use Rattle.source_text.proofs.commands.first_known.Goals as goal

pub returns : goal.returns
returns c =
    let old : c.push-3.new.self.items ≡ Reserved ∷ Reserved ∷ Reserved ∷ [] = search rules in
    first_are c.args.limit c.push-3.new.self.items c.add_commands.new.known.items _ (record { ref_ptr = (0, 0); now = [] }) old refl c.in_ok-add_commands.ensures
