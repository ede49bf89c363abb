use Rattle.patch_text.proofs.Texts.{AreRead}
use Rattle.patch_text.proofs.table.bases_of.Given as goal

abbrev pub invariant-letters : goal.invariant-letters
invariant-letters l = AreRead l.text l.letter-index l.put
