use Rattle.fuun_top.proofs.TopLemmas.{asked_output, read_output, refused_answer, refused_whole, wrote_answer, wrote_whole, wrote_nothing, wrote_unmade, wrote_not_long, wrote_part, wrote_grows, none_grows}
use Rattle.fuun_top.proofs.StepLemmas.{call_ticked, none_ticked}
use Rattle.fuun_top.proofs.top.fuun.Goals as goal

pub returns-in-Ok-read_inputs-clause-answer : goal.returns-in-Ok-read_inputs-clause-answer
returns-in-Ok-read_inputs-clause-answer g c output asked_for =
    let by = asked_output (g.F.Folder.contents c.args.folder.now) _ c.in-Ok.request c.sorted-asked.result output c.in-Ok.ensures.taken c.sorted-asked.ensures.sorted asked_for in
    wrote_answer c.in-Ok-read_inputs.inputs _ _ _ _ _ output c.put_output.ensures.wrote (read_output _ c.in-Ok-read_inputs.inputs output c.in-Ok-read_inputs.ensures.reads.agrees by)

pub returns-in-Ok-read_inputs-clause-whole : goal.returns-in-Ok-read_inputs-clause-whole
returns-in-Ok-read_inputs-clause-whole g c output asked_for =
    let by = asked_output (g.F.Folder.contents c.args.folder.now) _ c.in-Ok.request c.sorted-asked.result output c.in-Ok.ensures.taken c.sorted-asked.ensures.sorted asked_for in
    wrote_whole c.in-Ok-read_inputs.inputs _ _ _ _ _ output c.put_output.ensures.wrote (read_output _ c.in-Ok-read_inputs.inputs output c.in-Ok-read_inputs.ensures.reads.agrees by)

pub returns-in-Ok-read_inputs-clause-part : goal.returns-in-Ok-read_inputs-clause-part
returns-in-Ok-read_inputs-clause-part g c output asked_for =
    let by = asked_output (g.F.Folder.contents c.args.folder.now) _ c.in-Ok.request c.sorted-asked.result output c.in-Ok.ensures.taken c.sorted-asked.ensures.sorted asked_for in
    wrote_part c.in-Ok-read_inputs.inputs _ _ _ _ _ output c.put_output.ensures.wrote (read_output _ c.in-Ok-read_inputs.inputs output c.in-Ok-read_inputs.ensures.reads.agrees by)

pub returns-clause-answer : goal.returns-clause-answer
returns-clause-answer g c output asked_for =
    let by = asked_output (g.F.Folder.contents c.args.folder.now) _ c.in-Ok.request c.sorted-asked.result output c.in-Ok.ensures.taken c.sorted-asked.ensures.sorted asked_for in
    refused_answer _ c.in-Err.status output c.in-Err.ensures.reads.agrees by

pub returns-clause-whole : goal.returns-clause-whole
returns-clause-whole g c output asked_for =
    let by = asked_output (g.F.Folder.contents c.args.folder.now) _ c.in-Ok.request c.sorted-asked.result output c.in-Ok.ensures.taken c.sorted-asked.ensures.sorted asked_for in
    refused_whole _ c.in-Err.status output _ c.in-Err.ensures.reads.refused by

pub returns-in-Ok-read_inputs-clause-steps : goal.returns-in-Ok-read_inputs-clause-steps
returns-in-Ok-read_inputs-clause-steps g c =
    call_ticked (g.F.Folder.contents c.args.folder.now) _ c.in-Ok.request c.sorted-asked.result c.in-Ok-read_inputs.inputs _ _ c.in-Ok.ensures.taken c.sorted-asked.ensures.sorted
    c.in-Ok-read_inputs.ensures.reads.agrees c.put_output.ensures.ticks

pub returns-clause-steps : goal.returns-clause-steps
returns-clause-steps g c = none_ticked (g.F.Folder.contents c.args.folder.now) _ _

pub returns-in-Ok-read_inputs-clause-grows : goal.returns-in-Ok-read_inputs-clause-grows
returns-in-Ok-read_inputs-clause-grows g c = wrote_grows _ _ _ _ _ _ c.put_output.ensures.wrote

pub returns-clause-grows : goal.returns-clause-grows
returns-clause-grows g c = none_grows _

pub returns-in-Ok-read_inputs-clause-nothing : goal.returns-in-Ok-read_inputs-clause-nothing
returns-in-Ok-read_inputs-clause-nothing g c refusal = wrote_nothing c.in-Ok-read_inputs.inputs _ _ _ _ _ c.put_output.ensures.wrote refusal

pub returns-in-Ok-read_inputs-clause-unmade : goal.returns-in-Ok-read_inputs-clause-unmade
returns-in-Ok-read_inputs-clause-unmade g c unmade =
    wrote_unmade _ c.in-Ok.request c.sorted-asked.result c.in-Ok-read_inputs.inputs _ _ _ _ _ c.in-Ok.ensures.taken c.sorted-asked.ensures.sorted c.in-Ok-read_inputs.ensures.first c.put_output.ensures.wrote unmade

pub returns-in-Ok-read_inputs-clause-too_long : goal.returns-in-Ok-read_inputs-clause-too_long
returns-in-Ok-read_inputs-clause-too_long g c file long = absurd (wrote_not_long c.in-Ok-read_inputs.inputs _ _ _ _ _ file c.put_output.ensures.wrote long)
