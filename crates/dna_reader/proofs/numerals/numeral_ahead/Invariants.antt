use Rattle.std.proofs.Common.{◌-◌, ◌≤◌, length, take, drop}
use Rattle.dna_reader.specs.Digits.{HaveRead}
use Rattle.dna_reader.specs.Window.{Shows}
use Rattle.dna_reader.proofs.NumeralLemmas.{HasNoP}
use Rattle.dna_reader.proofs.numerals.numeral_ahead.Given as goal

abbrev pub invariant-loop-ahead : goal.invariant-loop-ahead
invariant-loop-ahead g l = record {
  shows : Shows l.window (g.S.Strand.bases l.s);
  order : l.fn.window.place ≤ l.window.place;
  read : HaveRead l.digits (take (l.window.place - l.fn.window.place) (drop l.fn.window.place (g.S.Strand.bases l.s)));
  no_p : HasNoP (take (l.window.place - l.fn.window.place) (drop l.fn.window.place (g.S.Strand.bases l.s)));
}

abbrev pub decreases-loop-ahead : goal.decreases-loop-ahead
decreases-loop-ahead g l = length (g.S.Strand.bases l.s) - l.window.place
