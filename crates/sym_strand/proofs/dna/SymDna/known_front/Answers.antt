use Rattle.std.proofs.Common.{◌≡◌, List, Some, ◌∙◌, sym, ap, subst, option_copied}
use Rattle.std.specs.Prelude.{slice_get, IfOk}
use Rattle.fuun_base.specs.declared.letters.Base.{Base}
use Rattle.sym_strand.specs.Cells.{known_front}
use Rattle.sym_strand.specs.declared.segments.Seg.TheVariants.{Known, Target}
use Rattle.sym_strand.proofs.CellLemmas.{front_is, no_front}
use Rattle.sym_strand.proofs.dna.SymDna.known_front.Goals as goal

pub returns-in_ok-from_slice-in-Known : goal.returns-in_ok-from_slice-in-Known
returns-in_ok-from_slice-in-Known c =
    let segs = c.self.inside.segs.items in
    let first : slice_get segs 0 ≡ Some (Known c.in-Known.bases) =
    ap (λ l. slice_get l 0) (sym c.deref.ensures.value) ∙ sym c.first.ensures.value ∙ ap option_copied c.in-Some.is ∙ ap Some c.in-Known.is in
    let front = (c.in_ok-from_slice-in-Known.ensures).items ∙ c.as_slice.ensures ∙ sym (front_is segs c.in-Known.bases c.self.invariant.tidy first) ∙ ap known_front c.self.view_is in
    subst (λ (bases : List Base). IfOk c.from_vec.result (λ list. list ≡ bases)) front c.from_vec.ensures

pub returns-in-Target : goal.returns-in-Target
returns-in-Target c =
    let segs = c.self.inside.segs.items in
    let first : slice_get segs 0 ≡ Some (Target c.in-Target.lo c.in-Target.hi) =
    ap (λ l. slice_get l 0) (sym c.deref.ensures.value) ∙ sym c.first.ensures.value ∙ ap option_copied c.in-Some.is ∙ ap Some c.in-Target.is in
    c.new-in-Target.ensures ∙ sym (no_front segs c.in-Target.lo c.in-Target.hi c.self.invariant.tidy first) ∙ ap known_front c.self.view_is
