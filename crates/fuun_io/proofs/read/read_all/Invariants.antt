use Rattle.std.proofs.Common.{◌≡◌, ◌+◌, ◌-◌, ◌<◌, vec_len}
use Rattle.fuun_io.specs.Counts.{raised}
use Rattle.fuun_io.proofs.ReadLemmas.{ReadSoFar}
use Rattle.fuun_io.proofs.read.read_all.Given as goal

abbrev pub invariant-loop-folder : goal.invariant-loop-folder
invariant-loop-folder g l = record {
  room : 0 < vec_len l.buffer;
  front : ReadSoFar (g.F.Folder.contents l.fn.folder l.name) l.file.items;
  given : g.F.Folder.given l.folder ≡ raised (g.F.Folder.given l.fn.folder) (vec_len l.file);
  faults : g.F.Folder.faults l.folder ≡ g.F.Folder.faults l.fn.folder;
  contents : g.F.Folder.contents l.folder ≡ g.F.Folder.contents l.fn.folder;
  allows : g.F.Folder.allows l.folder ≡ g.F.Folder.allows l.fn.folder;
}

abbrev pub decreases-loop-folder : goal.decreases-loop-folder
decreases-loop-folder g l = l.cap + 1 - vec_len l.file
