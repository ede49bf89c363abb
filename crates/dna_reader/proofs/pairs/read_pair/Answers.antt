use Rattle.std.proofs.lemmas.Result.{err_from_is_err_and}
use Rattle.dna_reader.proofs.PairLemmas.{within_pattern, within_template, pattern_ran_out, template_ran_out, pair_is_read}
use Rattle.dna_reader.proofs.pairs.read_pair.Goals as goal

pub returns-in_err-pattern-clause-ran_out : goal.returns-in_err-pattern-clause-ran_out
returns-in_err-pattern-clause-ran_out g c e =
    pattern_ran_out g.T.RnaTaker.follows g.T.RnaTaker.within (g.S.Strand.bases c.args.s.now) c.args.place c.args.rna.now c.read_pattern.new.rna
    (c.in_err-pattern.ensures.ran_out (let h = err_from_is_err_and c.from_residual.result c.from_residual.ensures.1 in cc (e, h.1, h.2)))

pub returns-in_err-pattern-clause-part : goal.returns-in_err-pattern-clause-part
returns-in_err-pattern-clause-part g c =
    let p = err_from_is_err_and c.from_residual.result c.from_residual.ensures.1 in
    rw p.1 (within_pattern g.T.RnaTaker.follows g.T.RnaTaker.within (g.S.Strand.bases c.args.s.now) c.args.place g.met.T.RnaTaker.widens c.args.rna.now c.read_pattern.new.rna c.in_err-pattern.ensures.part)

pub returns-in_err-template-clause-ran_out : goal.returns-in_err-template-clause-ran_out
returns-in_err-template-clause-ran_out g c e =
    template_ran_out g.T.RnaTaker.follows g.T.RnaTaker.within (g.S.Strand.bases c.args.s.now) c.args.place g.met.T.RnaTaker.goes_on c.args.rna.now c.read_pattern.new.rna c.read_template.new.rna c.in_ok-pattern.pattern c.in_ok-pattern.middle c.in_ok-pattern.ensures.read
    (c.in_err-template.ensures.ran_out (let h = err_from_is_err_and c.from_residual-in_err-template.result c.from_residual-in_err-template.ensures.1 in cc (e, h.1, h.2)))

pub returns-in_err-template-clause-part : goal.returns-in_err-template-clause-part
returns-in_err-template-clause-part g c =
    let p = err_from_is_err_and c.from_residual-in_err-template.result c.from_residual-in_err-template.ensures.1 in
    rw p.1 (within_template g.T.RnaTaker.follows g.T.RnaTaker.within (g.S.Strand.bases c.args.s.now) c.args.place g.met.T.RnaTaker.goes_within c.args.rna.now c.read_pattern.new.rna c.read_template.new.rna c.in_ok-pattern.pattern c.in_ok-pattern.middle c.in_ok-pattern.ensures.read c.in_err-template.ensures.part)

pub returns-clause-read : goal.returns-clause-read
returns-clause-read g c =
    pair_is_read g.T.RnaTaker.follows g.T.RnaTaker.within (g.S.Strand.bases c.args.s.now) c.args.place g.met.T.RnaTaker.goes_on c.args.rna.now c.read_pattern.new.rna c.read_template.new.rna c.in_ok-pattern.pattern c.in_ok-template.template c.in_ok-pattern.middle c.in_ok-template.next c.in_ok-pattern.ensures.read c.in_ok-template.ensures.read
