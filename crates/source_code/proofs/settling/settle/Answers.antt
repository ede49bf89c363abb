use Rattle.std.proofs.Common.{◌≡◌, ◌<◌, ◌≤◌, ap, arith, length, subst, sym}
use Rattle.source_items.specs.Values.{total}
use Rattle.source_code.specs.declared.settling.CodeError.TheVariants.{BadNumber}
use Rattle.source_code.proofs.Settled.{IsTaken, exact_found, exact_len, refused_is, refused_within, taken_is, too_long_is}
use Rattle.source_code.proofs.settling.settle.Goals as goal

pub returns-in-Err-clause-refused : goal.returns-in-Err-clause-refused
returns-in-Err-clause-refused c all are other = refused_is c.args.limit all c.args.lines.now c.in-Err.error are c.in-Err.ensures other

pub returns-then-total-from-clause-refused : goal.returns-then-total-from-clause-refused
returns-then-total-from-clause-refused c all are other =
    let over : c.args.limit < total c.in-Ok.behind = omega (arith, c.if-total-from.true, c.total.ensures.value, c.from.ensures) in
    too_long_is c.args.limit all c.args.lines.now c.in-Ok.behind c.requires are c.in-Ok.ensures over

pub codes-requires : goal.codes-requires
codes-requires c =
    let within : total c.in-Ok.behind ≤ c.args.limit = omega (arith, c.if-total-from.false, c.total.ensures.value, c.from.ensures) in
    exact_found c.args.lines.now c.in-Ok.behind c.args.limit c.in-Ok.ensures within c.requires

pub returns-in-Ok-codes-clause-taken : goal.returns-in-Ok-codes-clause-taken
returns-in-Ok-codes-clause-taken c all are =
    let within : total c.in-Ok.behind ≤ c.args.limit = omega (arith, c.if-total-from.false, c.total.ensures.value, c.from.ensures) in
    subst (λ code. IsTaken all c.args.limit code) (sym c.in-Ok-codes.ensures)
    (taken_is c.args.limit all c.args.lines.now c.in-Ok.behind c.requires are c.in-Ok.ensures within)

pub returns-in-Err-clause-index : goal.returns-in-Err-clause-index
returns-in-Err-clause-index c index is =
    let same : c.in-Err.error ≡ BadNumber index = cc in
    refused_within c.args.lines.now c.in-Err.error index c.in-Err.ensures same

pub returns-in-Ok-codes-clause-within : goal.returns-in-Ok-codes-clause-within
returns-in-Ok-codes-clause-within c =
    let within : total c.in-Ok.behind ≤ c.args.limit = omega (arith, c.if-total-from.false, c.total.ensures.value, c.from.ensures) in
    let exact = exact_found c.args.lines.now c.in-Ok.behind c.args.limit c.in-Ok.ensures within c.requires in
    omega (arith, ap length c.in-Ok-codes.ensures, exact_len c.args.lines.now c.in-Ok.behind exact, within)
