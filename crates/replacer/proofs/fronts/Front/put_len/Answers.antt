use Rattle.std.proofs.Common.{◌-◌, ap, arith, length, length-append}
use Rattle.fuun_base.specs.Quote.{asnat}
use Rattle.replacer.proofs.PutLengths.{length_of_word}
use Rattle.replacer.proofs.fronts.Front.put_len.Goals as goal

pub returns-clause-waiting : goal.returns-clause-waiting
returns-clause-waiting g c =
    omega (arith, ap length c.in_ok-asnat_into.ensures.added, length-append c.args.self.waiting.items (asnat (c.args.range.1 - c.args.range.0)), length_of_word (c.args.range.1 - c.args.range.0) (omega arith))
