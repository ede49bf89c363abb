use Rattle.std.proofs.Common.{◌≡◌, ◌+◌, ◌≤◌, ◌++◌, length}
use Rattle.std.specs.Prelude.{is_none}
use Rattle.std.specs.List.{position_from}
use Rattle.fuun_base.specs.Lines.{lines}
use Rattle.rewinder.specs.Script.{first_bad, order_of, orders}
use Rattle.rewinder.proofs.script.read_script.Given as goal

abbrev pub invariant-loop-rest : goal.invariant-loop-rest
invariant-loop-rest l = record {
  read : l.list ++ orders l.rest ≡ orders l.bytes;
  judged : position_from (λ line. is_none (order_of line)) l.line (lines l.rest) ≡ first_bad l.bytes;
  counted : l.line + length l.rest ≤ length l.bytes + 1;
}

abbrev pub decreases-loop-rest : goal.decreases-loop-rest
decreases-loop-rest l = length l.rest
