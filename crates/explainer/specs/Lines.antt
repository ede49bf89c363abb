-- The lines of `explain`.
use Rattle.std.specs.Prelude.{ℕ, Bool, true, false, List, ◌++◌, codes, decimal, map}
use Rattle.std.specs.List.{flat_map}
use Rattle.fuun_base.specs.declared.letters.Base.{Base}
use Rattle.fuun_base.specs.Letter.{letter_of}
use Rattle.sym_strand.specs.declared.segments.Seg.{Seg}
use Rattle.sym_strand.specs.declared.segments.Seg.TheVariants.{Known, Target}
use Rattle.explainer.specs.declared.explained.Explained.{Explained}

-- how the run ended
abbrev pub end_word : Bool → List ℕ
end_word true = codes "finished"
end_word false = codes "budget"

-- the line of the end, with the number of attempts
abbrev pub end_line : Bool → ℕ → List ℕ
end_line finished attempts = codes "end " ++ (end_word finished ++ (codes " " ++ (decimal attempts ++ codes "\n")))

-- the line of a command of RNA
abbrev pub rna_line : List Base → List ℕ
rna_line command = codes "rna " ++ (map letter_of command ++ codes "\n")

-- the line of a segment; a range of the target ends one past its last place
abbrev pub seg_line : Seg → List ℕ
seg_line (Known bases) = codes "known " ++ (map letter_of bases ++ codes "\n")
seg_line (Target lo hi) = codes "target " ++ (decimal lo ++ (codes " " ++ (decimal hi ++ codes "\n")))

-- all lines
abbrev pub explained_text : Explained → List ℕ
explained_text found = end_line found.finished found.attempts ++ (flat_map rna_line found.rna ++ flat_map seg_line found.segs)
