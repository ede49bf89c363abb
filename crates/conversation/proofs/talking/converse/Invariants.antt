use Rattle.std.proofs.Common.{◌-◌, ◌≡◌, ◌<◌, vec_len}
use Rattle.conversation.proofs.TalkLemmas.{TalkedSoFar}
use Rattle.conversation.proofs.talking.converse.Given as goal

abbrev pub invariant-loop-at : goal.invariant-loop-at
invariant-loop-at g l = record {
  room : 0 < vec_len l.buffer;
  talked : TalkedSoFar g.A.Answerer.says (g.F.Folder.contents l.fn.folder l.name) l.cap (g.F.Folder.given l.fn.folder) (g.F.Folder.given l.folder) l.at l.fn.answerer l.answerer l.waiting.items (g.K.Sink.bytes l.fn.sink) (g.K.Sink.bytes l.sink);
  read_faults : g.F.Folder.faults l.folder ≡ g.F.Folder.faults l.fn.folder;
  write_faults : g.K.Sink.faults l.sink ≡ g.K.Sink.faults l.fn.sink;
  contents : g.F.Folder.contents l.folder ≡ g.F.Folder.contents l.fn.folder;
  allows : g.F.Folder.allows l.folder ≡ g.F.Folder.allows l.fn.folder;
}

abbrev pub decreases-loop-at : goal.decreases-loop-at
decreases-loop-at g l = l.cap - l.at
