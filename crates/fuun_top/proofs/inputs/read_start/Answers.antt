use Rattle.std.proofs.Common.{Ok, Err, Some, ◌∷◌, [], ◌++◌, subst}
use Rattle.fuun_top.specs.declared.status.InFile.TheVariants as file
use Rattle.fuun_top.specs.Reading.{dna_in, prefix_files, prefix_in, started}
use Rattle.fuun_top.specs.ReadingRoom.{Reads}
use Rattle.fuun_top.proofs.ReadingLemmas.{reads_refused_behind}
use Rattle.fuun_top.proofs.inputs.read_start.Goals as goal

pub returns-in-Err-prefix_file-clause-reads : goal.returns-in-Err-prefix_file-clause-reads
returns-in-Err-prefix_file-clause-reads g c =
    let files = g.F.Folder.contents c.args.folder.now in
    let given = g.F.Folder.given in
    let faults = g.F.Folder.faults in
    let words = c.args.words.now in
    let old = c.args.folder.now in
    let mid = c.dna_file.new.folder in
    let new = c.prefix_file.new.folder in
    let status = c.in-Err-prefix_file.status in
    let first = subst (λ name. Reads files ((file.Dna, name) ∷ []) (dna_in files file.Dna name) (Ok c.in-Ok.dna) (given old) (given mid) (faults old) (faults mid)) c.as_str.ensures c.in-Ok.ensures.reads in
    let second = subst (λ f. Reads f (prefix_files words.prefix) (prefix_in f words.prefix) (Err status) (given mid) (given new) (faults mid) (faults new)) c.in-Ok.ensures.same_contents c.in-Err-prefix_file.ensures.reads in
    reads_refused_behind files _ _ _ c.in-Ok.dna (λ dna. prefix_in files words.prefix) (λ dna prefix. Some (started words.limit (prefix ++ dna))) status _ _ _ _ _ _ first second
