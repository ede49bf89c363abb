use Rattle.std.proofs.Common.{◌≡◌, [], Bool, true, false, Result, Err, arith, refl, ap, ◌∙◌}
use Rattle.std.proofs.lemmas.Result.{err_from_is_err_and}
use Rattle.dna_items.specs.Held.{held_template_item}
use Rattle.dna_reader.specs.declared.reading.ReadingError.{ReadingError}
use Rattle.dna_reader.specs.declared.reading.ReadingError.TheVariants.{RanOut}
use Rattle.dna_reader.specs.PieceByPiece.{PieceIsKept}
use Rattle.dna_reader.specs.Tables.{template_table}
use Rattle.dna_reader.proofs.TableLemmas.{template_fits}
use Rattle.dna_reader.proofs.EndLemmas.{template_few}
use Rattle.dna_reader.proofs.StepLemmas.{nothing_read, read_more, read_to_end, read_out, read_in_part}
use Rattle.dna_reader.proofs.reading.read_template.Goals as goal

pub loop-items-init : goal.loop-items-init
loop-items-init g c =
    let none = nothing_read template_table held_template_item template_fits g.T.RnaTaker.follows g.T.RnaTaker.within g.met.T.RnaTaker.stays g.met.T.RnaTaker.goes_on g.met.T.RnaTaker.starts g.met.T.RnaTaker.goes_within g.met.T.RnaTaker.widens
    (g.S.Strand.bases c.args.s.now) c.args.place c.args.place 0 [] c.args.rna.now c.args.rna.now c.args.rna.now in
    record {
      shows = c.at-window.ensures.shows;
      far = rw c.at-window.ensures.place (rw c.new-items.ensures none);
      no_fault = refl;
    }

pub returns-in_err-template_step-clause-ran_out : goal.returns-in_err-template_step-clause-ran_out
returns-in_err-template_step-clause-ran_out g c = λ out.
    let p = err_from_is_err_and c.from_residual.result c.from_residual.ensures.1 in
    let same : c.in_err-template_step.field-0.0 ≡ RanOut = cc in
    let told : ReadingError → Result Bool ReadingError = λ error. Err error in
    read_out template_table held_template_item template_fits g.T.RnaTaker.follows g.T.RnaTaker.within g.met.T.RnaTaker.stays g.met.T.RnaTaker.goes_on g.met.T.RnaTaker.starts g.met.T.RnaTaker.goes_within g.met.T.RnaTaker.widens
    (g.S.Strand.bases c.args.s.now) c.args.place c.loop-items.window.place 0 c.loop-items.items c.args.rna.now c.loop-items.rna c.template_step.new.rna c.loop-items.invariant.far (c.in_err-template_step.ensures.ran_out (ap told same)) (c.in_err-template_step.ensures.nothing (ap told same))

pub returns-in_err-template_step-clause-part : goal.returns-in_err-template_step-clause-part
returns-in_err-template_step-clause-part g c =
    let p = err_from_is_err_and c.from_residual.result c.from_residual.ensures.1 in
    rw p.1 (read_in_part template_table held_template_item template_fits g.T.RnaTaker.follows g.T.RnaTaker.within g.met.T.RnaTaker.stays g.met.T.RnaTaker.goes_on g.met.T.RnaTaker.starts g.met.T.RnaTaker.goes_within g.met.T.RnaTaker.widens
    (g.S.Strand.bases c.args.s.now) c.args.place c.loop-items.window.place 0 c.loop-items.items c.args.rna.now c.loop-items.rna c.template_step.new.rna c.loop-items.invariant.far c.in_err-template_step.ensures.part)

pub loop-items-preserved : goal.loop-items-preserved
loop-items-preserved g c =
    let kept : PieceIsKept template_table held_template_item g.T.RnaTaker.follows (g.S.Strand.bases c.args.s.now) c.loop-items.window.place c.template_step.new.window.place 0 0 c.loop-items.items c.template_step.new.items c.loop-items.rna c.template_step.new.rna true =
    rw c.if-branch.true at c.in_ok-template_step.ensures.kept in
    record {
      shows = c.in_ok-template_step.ensures.shows;
      far = read_more template_table held_template_item template_fits g.T.RnaTaker.follows g.T.RnaTaker.within g.met.T.RnaTaker.stays g.met.T.RnaTaker.goes_on g.met.T.RnaTaker.starts g.met.T.RnaTaker.goes_within g.met.T.RnaTaker.widens
          (g.S.Strand.bases c.args.s.now) c.args.place c.loop-items.window.place 0 c.loop-items.items c.args.rna.now c.loop-items.rna c.template_step.new.rna
          c.template_step.new.window.place 0 c.template_step.new.items c.loop-items.invariant.far kept (omega arith);
      no_fault = c.in_ok-template_step.ensures.no_fault (λ e. cc) ∙ c.loop-items.invariant.no_fault;
    }

pub returns-clause-read : goal.returns-clause-read
returns-clause-read g c =
    let kept : PieceIsKept template_table held_template_item g.T.RnaTaker.follows (g.S.Strand.bases c.args.s.now) c.loop-items.window.place c.template_step.new.window.place 0 0 c.loop-items.items c.template_step.new.items c.loop-items.rna c.template_step.new.rna false =
    rw c.if-branch.false at c.in_ok-template_step.ensures.kept in
    let end = read_to_end template_table held_template_item template_fits g.T.RnaTaker.follows g.T.RnaTaker.within g.met.T.RnaTaker.stays g.met.T.RnaTaker.goes_on g.met.T.RnaTaker.starts g.met.T.RnaTaker.goes_within g.met.T.RnaTaker.widens
    (g.S.Strand.bases c.args.s.now) c.args.place c.loop-items.window.place 0 c.loop-items.items c.args.rna.now c.loop-items.rna c.template_step.new.rna
    c.template_step.new.window.place 0 c.template_step.new.items c.loop-items.invariant.far kept in
    rw c.place.ensures (record { read = end.0; rna = end.1; reads = end.2; held = end.3; taken = end.4 })

pub returns-clause-few : goal.returns-clause-few
returns-clause-few g c =
    template_few g.T.RnaTaker.follows c.args.rna.now c.template_step.new.rna (g.S.Strand.bases c.args.s.now) c.args.place c.template_step.new.items c.place.result (returns-clause-read g c) c.requires.place
    (omega (arith, c.place.ensures, c.in_ok-template_step.ensures.shows.within))
