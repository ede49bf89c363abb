use Rattle.std.proofs.Common.{ap, arith, sym}
use Rattle.std.specs.Prelude.{Err}
use Rattle.exec_loop.specs.State.{State}
use Rattle.exec_loop.proofs.Parts.{on_err, step_ok, step_last, step_part, step_broke, step_ticks}
use Rattle.exec_loop.proofs.state.Machine.step.Goals as goal

pub returns-in-Ok-clause-attempt : goal.returns-in-Ok-clause-attempt
returns-in-Ok-clause-attempt g c =
    step_ok g.T.RnaTaker.follows g.T.RnaTaker.within c.args.self.now c.put_next.new.self (g.S.Strand.bases c.self.inside.dna) (ap (λ (s : State). s.dna) (sym c.self.view_is)) c.limit-limit.ensures.limited c.args.rna.now c.read_pair.new.rna
    c.in-Ok.pair.pattern c.in-Ok.pair.template c.in-Ok.pair.next c.put_next.result c.in-Ok.ensures.read (omega (arith, c.in-Ok.ensures.few, c.in-Ok.ensures.within)) c.put_next.ensures.came c.put_next.ensures.pattern c.put_next.ensures.template

pub returns-in-Ok-clause-part : goal.returns-in-Ok-clause-part
returns-in-Ok-clause-part g c =
    on_err c.put_next.result _ (step_part g.T.RnaTaker.follows g.T.RnaTaker.within c.args.self.now c.put_next.new.self (g.S.Strand.bases c.self.inside.dna) (ap (λ (s : State). s.dna) (sym c.self.view_is)) c.limit-limit.ensures.limited c.args.rna.now c.read_pair.new.rna g.met.T.RnaTaker.starts c.in-Ok.pair.pattern c.in-Ok.pair.template c.in-Ok.pair.next c.in-Ok.ensures.read)

pub returns-in-Err-RanOut-clause-attempt : goal.returns-in-Err-RanOut-clause-attempt
returns-in-Err-RanOut-clause-attempt g c =
    step_last g.T.RnaTaker.follows g.T.RnaTaker.within c.args.self.now c.args.self.now (g.S.Strand.bases c.self.inside.dna) (ap (λ (s : State). s.dna) (sym c.self.view_is)) c.limit-limit.ensures.limited c.args.rna.now c.read_pair.new.rna c.finished.result (c.in-Err-RanOut.ensures.ran_out (ap (λ e. Err e) c.in-Err-RanOut.field-0-is)) c.finished.ensures.pattern c.finished.ensures.template c.finished.ensures.outcome

pub returns-in-Ok-clause-ticks : goal.returns-in-Ok-clause-ticks
returns-in-Ok-clause-ticks g c =
    step_ticks g.T.RnaTaker.follows (g.S.Strand.height_bound c.args.self.now.limit) c.args.self.now (g.S.Strand.bases c.self.inside.dna) (ap (λ (s : State). s.dna) (sym c.self.view_is)) c.limit-limit.ensures.limited c.args.rna.now c.read_pair.new.rna
    c.in-Ok.pair.pattern c.in-Ok.pair.template c.in-Ok.pair.next c.args.steps.now c.put_next.new.steps c.in-Ok.ensures.read (omega (arith, c.in-Ok.ensures.few, c.in-Ok.ensures.within)) c.put_next.ensures.ticks

pub returns-in-Err-TakerFailed-clause-part : goal.returns-in-Err-TakerFailed-clause-part
returns-in-Err-TakerFailed-clause-part g c =
    step_broke g.T.RnaTaker.follows g.T.RnaTaker.within c.args.self.now c.args.self.now (g.S.Strand.bases c.self.inside.dna) (ap (λ (s : State). s.dna) (sym c.self.view_is)) c.limit-limit.ensures.limited c.args.rna.now c.read_pair.new.rna c.in-Err-TakerFailed.ensures.part

pub returns-in-Err-NoMemory-clause-part : goal.returns-in-Err-NoMemory-clause-part
returns-in-Err-NoMemory-clause-part g c =
    step_broke g.T.RnaTaker.follows g.T.RnaTaker.within c.args.self.now c.args.self.now (g.S.Strand.bases c.self.inside.dna) (ap (λ (s : State). s.dna) (sym c.self.view_is)) c.limit-limit.ensures.limited c.args.rna.now c.read_pair.new.rna c.in-Err-NoMemory.ensures.part
