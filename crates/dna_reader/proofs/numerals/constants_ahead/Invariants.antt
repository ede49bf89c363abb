use Rattle.std.proofs.Common.{◌≡◌, ◌+◌, ◌-◌, ◌++◌, length, drop}
use Rattle.fuun_base.specs.Quote.{quote}
use Rattle.dna_reader.specs.Constants.{consts}
use Rattle.dna_reader.specs.Window.{Shows}
use Rattle.dna_reader.proofs.numerals.constants_ahead.Given as goal

abbrev pub invariant-loop-base : goal.invariant-loop-base
invariant-loop-base g l = record {
  shows : Shows l.window (g.S.Strand.bases l.s);
  bases : consts (drop l.fn.window.place (g.S.Strand.bases l.s)) ≡ l.constants ++ consts (drop l.window.place (g.S.Strand.bases l.s));
  place : l.window.place ≡ l.fn.window.place + length (quote l.constants);
}

abbrev pub decreases-loop-base : goal.decreases-loop-base
decreases-loop-base g l = length (g.S.Strand.bases l.s) - l.window.place
