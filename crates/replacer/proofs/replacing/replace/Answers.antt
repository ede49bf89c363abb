use Rattle.std.proofs.Common.{◌+◌, ◌*◌, ◌≤◌, length, max, arith}
use Rattle.fuun_base.specs.Ticks.{Ticks}
use Rattle.replacer.specs.Replacement.{replacement, texts_of}
use Rattle.replacer.specs.Costs.{cost}
use Rattle.replacer.proofs.Items.{length-replaced}
use Rattle.replacer.proofs.Costs.{counted}
use Rattle.replacer.proofs.replacing.replace.Goals as goal

pub returns-in_err-put-clause-ticks : goal.returns-in_err-put-clause-ticks
returns-in_err-put-clause-ticks g c most strand_within new_within =
    let d = g.S.Strand.bases c.args.s.now in
    let texts = texts_of d c.args.groups.now in
    let put = length (replacement texts c.args.tpl.now) in
    let low = g.S.Strand.height_bound (max (length d) put) in
    let ticks : Ticks c.args.steps.now c.put_all.new.steps (cost low texts c.args.tpl.now + 3 * (low + 1)) = c.put_all.ensures.ticks in
    counted g.S.Strand.height_bound g.met.S.Strand.bound_rises texts c.args.tpl.now c.args.steps.now c.put_all.new.steps (length d) put
    ticks.0 (omega (arith, ticks.1)) most strand_within (omega (arith, new_within, length-replaced d c.args.tpl.now c.args.groups.now c.args.stop))

pub returns-clause-ticks : goal.returns-clause-ticks
returns-clause-ticks g c most strand_within new_within =
    let d = g.S.Strand.bases c.args.s.now in
    let texts = texts_of d c.args.groups.now in
    let put = length (replacement texts c.args.tpl.now) in
    let low = g.S.Strand.height_bound (max (length d) put) in
    let ticks : Ticks c.args.steps.now c.put_all.new.steps (cost low texts c.args.tpl.now + 3 * (low + 1)) = c.put_all.ensures.ticks in
    let height = g.S.Strand.height c.args.s.now in
    let front_height = g.S.Strand.height c.in_ok-put.put in
    let added : Ticks c.put_all.new.steps c.join_from.new.steps (64 * (height + 1) + 3 * max front_height height + 3) = c.join_from.ensures.ticks in
    let high = g.met.S.Strand.bound_rises (length d) (max (length d) put) (omega arith) in
    let front_high : front_height ≤ low = c.in_ok-put.ensures.height in
    counted g.S.Strand.height_bound g.met.S.Strand.bound_rises texts c.args.tpl.now c.args.steps.now c.join_from.new.steps (length d) put
    (omega (arith, ticks.0, added.0)) (omega (arith, ticks.1, added.1, high, c.len-len.ensures.height, front_high))
    most strand_within (omega (arith, new_within, length-replaced d c.args.tpl.now c.args.groups.now c.args.stop))
