use Rattle.std.proofs.Common.{◌<◌, length, get_or, arith, rules}
use Rattle.fuun_base.specs.declared.letters.Base.TheVariants.{I}
use Rattle.rope_search.proofs.Borders.{next_of_border, border_next}
use Rattle.rope_search.proofs.rows.row_behind.Goals as goal

pub returns-clause-others : goal.returns-clause-others
returns-clause-others c =
    let some : 0 < length c.args.rows.now = search rules in
    let within : c.args.back < length c.args.rows.now = omega (arith, c.requires.border.most) in
    λ base other. next_of_border c.args.needle.now (length c.args.rows.now) c.args.back base _ some c.requires.border other (c.requires.rows c.args.back within base)

pub returns-clause-border : goal.returns-clause-border
returns-clause-border c =
    let some : 0 < length c.args.rows.now = search rules in
    let within : c.args.back < length c.args.rows.now = omega (arith, c.requires.border.most) in
    border_next c.args.needle.now (length c.args.rows.now) c.args.back _ some c.requires.border (c.requires.rows c.args.back within (get_or c.args.needle.now (length c.args.rows.now) I))
