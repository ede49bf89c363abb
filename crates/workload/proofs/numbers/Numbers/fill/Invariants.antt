use Rattle.std.proofs.Common.{◌≡◌, length, take}
use Rattle.workload.specs.Numbers.{bases_drawn, behind}
use Rattle.workload.proofs.numbers.Numbers.fill.Given as goal

abbrev pub invariant-loop-index : goal.invariant-loop-index
invariant-loop-index l = record {
  state : l.self ≡ behind l.index l.fn.self;
  filled : take l.index l.slots ≡ bases_drawn l.index l.fn.self;
  len : length l.slots ≡ length l.fn.slots;
}
