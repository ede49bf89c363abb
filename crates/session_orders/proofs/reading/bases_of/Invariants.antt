use Rattle.std.proofs.Common.{◌≡◌, true, take}
use Rattle.std.specs.List.{list_all}
use Rattle.fuun_base.specs.DnaFile.{bases}
use Rattle.fuun_base.specs.Letter.{is_letter}
use Rattle.session_orders.proofs.reading.bases_of.Given as goal

abbrev pub invariant-letters : goal.invariant-letters
invariant-letters l = record {
  all : list_all is_letter (take l.letter-index l.word) ≡ true;
  read : l.bases ≡ bases (take l.letter-index l.word);
}
