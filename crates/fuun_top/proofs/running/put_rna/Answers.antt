use Rattle.std.proofs.Common.{rules}
use Rattle.dna_reader.specs.Lending.{sink_of}
use Rattle.dna_reader.proofs.LineLemmas.{part_is_front}
use Rattle.fuun_top.specs.declared.request.RunVerb.TheVariants as verbs
use Rattle.fuun_top.specs.declared.status.Status.TheVariants.{WriteFault, NoMemory}
use Rattle.fuun_top.specs.Output.{IsRunOutput}
use Rattle.fuun_top.proofs.WrittenOutput.{rna_whole, rna_cut_off, rna_spent, wrote_lent}
use Rattle.fuun_top.proofs.running.put_rna.Goals as goal

pub returns-in-Ok-clause-wrote : goal.returns-in-Ok-clause-wrote
returns-in-Ok-clause-wrote g c =
    let made = c.in-Ok.ensures.run in
    let same = made.taken.same in
    wrote_lent g.S.Sink.bytes g.S.Sink.faults (IsRunOutput verbs.Rna c.args.machine.now.dna c.args.budget c.args.machine.now.limit) c.run_status.result
    c.args.out.now (sink_of c.new-lines.result) (sink_of c.run.new.rna) _ c.new-lines.ensures.sink (search rules)
    (rna_whole _ _ _ made.run c.in-Ok.end c.run_status.result _ _ _ _ made.is made.ends c.run_status.ensures made.taken.put (c.in-Ok.ensures.no_fault (λ e. cc e)))

pub returns-in-Err-TakerFailed-clause-wrote : goal.returns-in-Err-TakerFailed-clause-wrote
returns-in-Err-TakerFailed-clause-wrote g c =
    let broken = c.in-Err-TakerFailed.ensures.part.0 in
    let same = broken.stands.same in
    wrote_lent g.S.Sink.bytes g.S.Sink.faults (IsRunOutput verbs.Rna c.args.machine.now.dna c.args.budget c.args.machine.now.limit) WriteFault
    c.args.out.now (sink_of c.new-lines.result) (sink_of c.run.new.rna) _ c.new-lines.ensures.sink (search rules)
    (rna_cut_off _ _ _ broken.run _ _ _ _ broken.is (part_is_front _ _ _ broken.stands) (c.in-Err-TakerFailed.ensures.failed (cc (c.in-Err-TakerFailed.is, c.in-Err-TakerFailed.field-0-is))))

pub returns-in-Err-NoMemory-clause-wrote : goal.returns-in-Err-NoMemory-clause-wrote
returns-in-Err-NoMemory-clause-wrote g c =
    let broken = c.in-Err-NoMemory.ensures.part.0 in
    let same = broken.stands.same in
    wrote_lent g.S.Sink.bytes g.S.Sink.faults (IsRunOutput verbs.Rna c.args.machine.now.dna c.args.budget c.args.machine.now.limit) NoMemory
    c.args.out.now (sink_of c.new-lines.result) (sink_of c.run.new.rna) _ c.new-lines.ensures.sink (search rules)
    (rna_spent _ _ _ broken.run _ _ _ _ broken.is (part_is_front _ _ _ broken.stands) (c.in-Err-NoMemory.ensures.no_fault (λ e. cc e)))
