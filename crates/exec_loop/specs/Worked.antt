-- Attempts that were worked out by hand.
use Rattle.std.specs.Prelude.{List, [], ◌∷◌}
use Rattle.fuun_base.specs.declared.letters.Base.{Base}
use Rattle.fuun_base.specs.declared.letters.Base.TheVariants.{I, C, F, P}
use Rattle.dna_items.specs.declared.items.PatItem.TheVariants.{Base as Literal, Skip, GroupStart, GroupStop}
use Rattle.dna_items.specs.declared.items.TplItem.TheVariants.{Base as TplLiteral, Group}
use Rattle.exec_loop.specs.Attempt.{Matched, NoMatch, Finished, Attempt}

-- the pattern (!2)P and the template PI{0,0}, and then CFPC
abbrev pub matching_dna : List Base
matching_dna =
    I ∷ I ∷ P ∷ I ∷ P ∷ I ∷ C ∷ P ∷ I ∷ I ∷ C ∷ I ∷ C ∷ I ∷ I ∷ F
    ∷ I ∷ C ∷ C ∷ I ∷ F ∷ P ∷ P ∷ I ∷ I ∷ C ∷ C ∷ F ∷ P ∷ C ∷ []

-- the match stops at 3, and puts PI and CF in the place of CFP
abbrev pub matching_attempt : Attempt
matching_attempt = record {
  pattern = GroupStart ∷ Skip 2 ∷ GroupStop ∷ Literal P ∷ [];
  template = TplLiteral P ∷ TplLiteral I ∷ Group 0 0 ∷ [];
  rna = [];
  ending = Matched 3 (P ∷ I ∷ C ∷ F ∷ C ∷ []);
}

-- the pattern I and no template, and then CF, which does not begin with I
abbrev pub failing_dna : List Base
failing_dna = C ∷ I ∷ I ∷ C ∷ I ∷ I ∷ C ∷ C ∷ F ∷ []

-- the next DNA is what the readings left
abbrev pub failing_attempt : Attempt
failing_attempt = record { pattern = Literal I ∷ []; template = []; rna = []; ending = NoMatch (C ∷ F ∷ []) }

-- a skip over a numeral that has no end
abbrev pub finishing_dna : List Base
finishing_dna = I ∷ P ∷ C ∷ C ∷ []

abbrev pub finishing_attempt : Attempt
finishing_attempt = record { pattern = []; template = []; rna = []; ending = Finished }
