use Rattle.std.proofs.Common.{◌≡◌, ◌≤◌, ◌++◌, length, take, drop}
use Rattle.std.specs.List.{list_all}
use Rattle.fuun_base.specs.RnaFile.{command_of, is_allowed}
use Rattle.fuun_base.proofs.rna_file.read_each.Given as goal

abbrev pub invariant-loop-byte : goal.invariant-loop-byte
invariant-loop-byte l = record {
  places : length l.bases ≡ 7;
  room : l.len ≤ 7;
  read : take l.len l.bases ++ command_of (drop l.byte-index l.line) ≡ command_of l.line;
  judged : list_all is_allowed (drop l.byte-index l.line) ≡ list_all is_allowed l.line;
}
