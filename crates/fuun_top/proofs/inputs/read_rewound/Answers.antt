use Rattle.std.proofs.Common.{Ok, Err, ◌∷◌, [], subst}
use Rattle.fuun_top.specs.declared.status.InFile.TheVariants as file
use Rattle.fuun_top.specs.Reading.{dna_in, guided_in, guiding_files}
use Rattle.fuun_top.specs.ReadingRoom.{Reads}
use Rattle.fuun_top.proofs.ReadingLemmas.{reads_refused_behind}
use Rattle.fuun_top.proofs.inputs.read_rewound.Goals as goal

pub returns-in-Err-read_guided-clause-reads : goal.returns-in-Err-read_guided-clause-reads
returns-in-Err-read_guided-clause-reads g c =
    let files = g.F.Folder.contents c.args.folder.now in
    let given = g.F.Folder.given in
    let faults = g.F.Folder.faults in
    let words = c.args.words.now in
    let old = c.args.folder.now in
    let mid = c.dna_file.new.folder in
    let new = c.read_guided.new.folder in
    let name = c.as_str-2.result.now in
    let status = c.in-Err-read_guided.status in
    let first = subst (λ dna. Reads files ((file.Dna, dna) ∷ []) (dna_in files file.Dna dna) (Ok c.in-Ok.bases) (given old) (given mid) (faults old) (faults mid)) c.as_str.ensures c.in-Ok.ensures.reads in
    let here = subst (λ f. Reads f (guiding_files words.prefix name) (guided_in f words.prefix name) (Err status) (given mid) (given new) (faults mid) (faults new)) c.in-Ok.ensures.same_contents c.in-Err-read_guided.ensures.reads in
    let second = subst (λ script. Reads files (guiding_files words.prefix script) (guided_in files words.prefix script) (Err status) (given mid) (given new) (faults mid) (faults new)) c.as_str-2.ensures here in
    reads_refused_behind files _ _ _ c.in-Ok.bases (λ dna. guided_in files words.prefix words.script) _ status _ _ _ _ _ _ first second
