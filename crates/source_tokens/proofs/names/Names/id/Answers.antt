use Rattle.std.proofs.Common.{Vec, Global, ℕ, List, ◌∙◌}
use Rattle.source_tokens.proofs.NameLemmas.{id_of, met_with}
use Rattle.source_tokens.proofs.names.Names.id.Goals as goal

abbrev text_of : Vec ℕ Global → List ℕ
text_of text = text.items

pub returns-clause-id : goal.returns-clause-id
returns-clause-id c =
    c.in_ok-place.ensures.index
    ∙ id_of text_of c.in_ok-from_slice.field-0.items c.args.name.now c.self.inside.texts.keys c.args.self.now c.in_ok-from_slice.ensures.items c.self.view_is

pub returns-clause-met : goal.returns-clause-met
returns-clause-met c =
    met_with text_of c.args.name.now c.self.inside.texts.keys c.insert_full.new.self.keys c.in_ok-from_slice.field-0 c.args.self.now c.in_ok-from_slice.ensures.items c.self.view_is c.in_ok-place.ensures.keys
