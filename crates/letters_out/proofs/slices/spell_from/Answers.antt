use Rattle.std.proofs.Common.{arith}
use Rattle.letters_out.proofs.PieceLemmas.{spelled}
use Rattle.letters_out.proofs.slices.spell_from.Goals as goal

pub returns-clause-letters : goal.returns-clause-letters
returns-clause-letters c = spelled _ c.args.place c.args.bases.now _ _ (omega arith) c.spell.ensures
