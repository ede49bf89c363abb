-- The mark of a DNA, some bases at a time.
use Rattle.std.proofs.Common.{◌≡◌, ℕ, ◌+◌, ◌-◌, ◌≤◌, List, ◌++◌, length, take, drop, sym, ap, ◌∙◌, arith, length-drop}
use Rattle.std.proofs.Math.Seq.{take-add}
use Rattle.std.proofs.lemmas.List.{length-take-le, take_at}
use Rattle.fuun_base.specs.declared.letters.Base.{Base}
use Rattle.workload.specs.Mark.{mark_behind, mark_of}
use Rattle.workload.proofs.Drawing.{mark_goes_on}

-- bases that were copied from a place on to the front of a window
pub copied : (count place : ℕ) (dna window rest : List Base) → count ≤ length dna - place → window ≡ take count (drop place dna) ++ rest → take count window ≡ take count (drop place dna)
copied count place dna window rest few is =
    ap (take count) is ∙ take_at (take count (drop place dna)) rest count (length-take-le count (drop place dna) (omega (arith, few, length-drop place dna)))

-- some bases more were marked
pub mark_more : (dna part : List Base) (place count mark next : ℕ) → part ≡ take count (drop place dna) → mark ≡ mark_of (take place dna) → next ≡ mark_behind mark part
    → next ≡ mark_of (take (place + count) dna)
mark_more dna part place count mark next is before goes_on =
    goes_on ∙ ap (mark_behind mark) is ∙ ap (λ m. mark_behind m (take count (drop place dna))) before
    ∙ sym (mark_goes_on 0 (take place dna) (take count (drop place dna))) ∙ ap mark_of (sym (take-add place count dna))
