use Rattle.std.proofs.Common.{◌≡◌, ◌+◌, ◌≤◌, ◌++◌, length}
use Rattle.std.specs.Prelude.{not}
use Rattle.std.specs.List.{position_from}
use Rattle.fuun_base.specs.Lines.{lines}
use Rattle.fuun_base.specs.RnaFile.{commands, first_bad, is_command}
use Rattle.fuun_base.proofs.rna_file.read_rna.Given as goal

abbrev pub invariant-loop-rest : goal.invariant-loop-rest
invariant-loop-rest l = record {
  read : l.list ++ commands l.rest ≡ commands l.bytes;
  judged : position_from (λ line. not (is_command line)) l.line (lines l.rest) ≡ first_bad l.bytes;
  counted : l.line + length l.rest ≤ length l.bytes + 1;
}

abbrev pub decreases-loop-rest : goal.decreases-loop-rest
decreases-loop-rest l = length l.rest
