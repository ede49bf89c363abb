-- What is drawn of RNA that was kept is the picture of the run.
use Rattle.std.proofs.Common.{◌≡◌, ℕ, ◌+◌, Some, Ok, List, ◌++◌, sym, ap, subst, ◌∙◌}
use Rattle.fuun_base.specs.declared.letters.Base.{Base}
use Rattle.rna_code.specs.declared.profile.Profile.{Profile}
use Rattle.rna_code.specs.Commands.{act_of}
use Rattle.layers.specs.Layers.{top_of}
use Rattle.painter.specs.Picture.{Picture, start}
use Rattle.painter.proofs.Outcomes.{builds_once}
use Rattle.ppm_out.specs.Ppm.{ppm}
use Rattle.dna_reader.specs.RnaLines.{rna_lines}
use Rattle.exec_loop.specs.Laws.{IsInParts}
use Rattle.exec_loop.specs.Run.{Run, IsRun}
use Rattle.exec_loop.proofs.Joined.{run_gives_commands}
use Rattle.exec_loop.proofs.Runs.{one_run}
use Rattle.fuun_top.specs.declared.inputs.Inputs.TheVariants as inputs
use Rattle.fuun_top.specs.declared.inputs.Plain.TheVariants as plain
use Rattle.fuun_top.specs.declared.request.RnaVerb.TheVariants as rna_verb
use Rattle.fuun_top.specs.declared.request.RunVerb.TheVariants as verb
use Rattle.fuun_top.specs.declared.status.Status.{Status}
use Rattle.fuun_top.specs.declared.status.Status.TheVariants.{Done}
use Rattle.fuun_top.specs.Chaining.{Gives, IsKept, run_on, with_budget}
use Rattle.fuun_top.specs.Output.{Output, Drawing, IsBody, IsRunOutput, OutputBy, picture_side, most_layers, spent_is_done, status_by}
use Rattle.fuun_top.specs.Reading.{Files, Reading, then_read, rna_in, start_in}
use Rattle.fuun_top.specs.RunChains.{DrawnRnaIsImage, DrawnPartsAreImage}
use Rattle.fuun_top.proofs.ReadBack.{output_by, was_started, run_by, rna_back}
use Rattle.fuun_top.proofs.ChainedRuns.{CutRun, cut_run, parts, part_lines, first_lines}
use Rattle.fuun_words.specs.declared.request.Request.TheVariants as words
use Rattle.fuun_words.specs.declared.request.RunWords.{RunWords}

-- one drawing has one file, whatever the status
one_file : (profile : Profile) (rna : List (List Base)) (s t : Status) (a b : Output) → IsBody s (Drawing profile rna) a → IsBody t (Drawing profile rna) b → a.bytes ≡ b.bytes
one_file profile rna s t a b x y =
    let same : x.picture ≡ y.picture = builds_once (picture_side profile) (most_layers profile) (act_of profile) rna (start (picture_side profile)) x.picture y.picture x.builds y.builds in
    ap (λ (o : Output). o.bytes) x.is ∙ ap (λ (p : Picture). ppm (picture_side profile) (top_of p.layers)) same ∙ sym (ap (λ (o : Output). o.bytes) y.is)

-- what is drawn of RNA that was kept
drawn_by : (files : Files) (name : List ℕ) (profile : Profile) (rna : List (List Base)) (drawn : Output) → rna_in files name ≡ Some (Ok rna) → Gives files (words.Draw name profile) drawn → IsBody Done (Drawing profile rna) drawn
drawn_by files name profile rna drawn is gives =
    subst (λ (reading : Reading (List (List Base))). OutputBy (then_read reading (λ commands. Some (Ok (inputs.Plain (plain.Rna (rna_verb.Draw profile) commands))))) drawn) is
    (output_by files (words.Draw name profile) drawn gives)

-- the file of a run's RNA draws the picture of the run
drawn_of_run : (files last : Files) (asked : RunWords) (profile : Profile) (dna : List Base) (run : Run) (name : List ℕ) (image drawn : Output)
    → start_in files asked ≡ Some (Ok dna) → IsRun dna asked.budget asked.limit run → Gives files (words.Image asked profile) image → IsKept last name (rna_lines run.rna) → Gives last (words.Draw name profile) drawn
    → (drawn.status ≡ Done) × (drawn.bytes ≡ image.bytes)
drawn_of_run files last asked profile dna run name image drawn start is gives_image kept gives_drawn =
    let x : IsRunOutput (verb.Image profile) dna asked.budget asked.limit image = run_by files (verb.Image profile) asked dna image start (output_by files (words.Image asked profile) image gives_image) in
    let same : x.run ≡ run = one_run asked.limit asked.budget dna x.run run x.is is in
    let y : IsBody Done (Drawing profile run.rna) drawn =
    drawn_by last name profile run.rna drawn (rna_back last name run.rna (run_gives_commands asked.limit asked.budget dna run is) kept) gives_drawn in
    let status : Status = status_by (spent_is_done (verb.Image profile)) x.run.end in
    let z : IsBody status (Drawing profile run.rna) image = subst (λ (r : Run). IsBody status (Drawing profile r.rna) image) same x.writes in
    (ap (λ (o : Output). o.status) y.is, one_file profile run.rna Done status drawn image y z)

pub drawn_rna_is_image : DrawnRnaIsImage
drawn_rna_is_image files later asked profile name rna image drawn gives_rna was gives_image kept gives_drawn =
    let ran = output_by files (words.Rna asked) rna gives_rna in
    let start : (dna : List Base) × (start_in files asked ≡ Some (Ok dna)) = was_started files verb.Rna asked rna was ran in
    let x : IsRunOutput verb.Rna start.0 asked.budget asked.limit rna = run_by files verb.Rna asked start.0 rna start.1 ran in
    drawn_of_run files later asked profile start.0 x.run name image drawn start.1 x.is gives_image (subst (IsKept later name) (ap (λ (o : Output). o.bytes) x.writes) kept) gives_drawn

pub drawn_parts_are_image : DrawnPartsAreImage
drawn_parts_are_image files later last asked profile a b name both_name first second image drawn is_cut gives_first gives_second gives_image kept gives_drawn =
    let cut : CutRun files later asked a name = cut_run files later asked a name is_cut in
    let x : IsRunOutput verb.Rna cut.run.dna b asked.limit second =
    run_by later verb.Rna (run_on name asked b) cut.run.dna second (cut.goes_on b) (output_by later (words.Rna (run_on name asked b)) second gives_second) in
    let y : IsRunOutput (verb.Image profile) cut.dna (a + b) asked.limit image =
    run_by files (verb.Image profile) (with_budget asked (a + b)) cut.dna image cut.start (output_by files (words.Image (with_budget asked (a + b)) profile) image gives_image) in
    let whole : IsInParts a cut.run x.run y.run = parts files later asked a b name cut x.run y.run x.is y.is in
    let bytes : first.bytes ++ second.bytes ≡ rna_lines y.run.rna =
    ap (λ l. l ++ second.bytes) (first_lines files later asked a name cut first gives_first)
    ∙ ap (λ l. rna_lines cut.run.rna ++ l) (ap (λ (o : Output). o.bytes) x.writes)
    ∙ sym (part_lines a cut.run x.run y.run whole) in
    drawn_of_run files last (with_budget asked (a + b)) profile cut.dna y.run both_name image drawn cut.start y.is gives_image (subst (IsKept last both_name) bytes kept) gives_drawn
