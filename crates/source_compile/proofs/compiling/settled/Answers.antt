use Rattle.std.proofs.Common.{◌≢◌, ◌<◌, length, Err, arith, sym, ap, subst}
use Rattle.source_code.specs.Answers.{IsAnswer, IsLastBig}
use Rattle.source_code.specs.declared.settling.CodeError.TheVariants.{BadNumber, NoMemory}
use Rattle.source_items.specs.Held.{AreHeld}
use Rattle.source_text.specs.Taking.{lines_in}
use Rattle.source_compile.proofs.PlaceLemmas.{big_at}
use Rattle.source_compile.proofs.compiling.settled.Goals as goal

pub returns-in-Err-BadNumber-clause-refused : goal.returns-in-Err-BadNumber-clause-refused
returns-in-Err-BadNumber-clause-refused c known all are =
    let held : AreHeld c.args.limit (lines_in all) c.as_slice.result.now = subst (λ l. AreHeld c.args.limit (lines_in all) l) (sym c.as_slice.ensures) are.held in
    let other : BadNumber c.in-Err-BadNumber.index ≢ NoMemory = λ is. cc in
    let apart : c.in-Err-BadNumber.field-0 ≢ NoMemory = subst (λ e. e ≢ NoMemory) (sym c.in-Err-BadNumber.field-0-is) other in
    let refused : IsAnswer (lines_in all) c.args.limit (Err c.in-Err-BadNumber.field-0) = (c.in-Err-BadNumber.ensures).refused (lines_in all) held apart in
    let big : IsLastBig (lines_in all) c.in-Err-BadNumber.index = subst (λ e. IsAnswer (lines_in all) c.args.limit (Err e)) c.in-Err-BadNumber.field-0-is refused in
    let within : c.in-Err-BadNumber.index < length c.args.read.now.lines = omega (arith, (c.in-Err-BadNumber.ensures).index c.in-Err-BadNumber.index (ap (λ e. Err e) c.in-Err-BadNumber.field-0-is), ap length c.as_slice.ensures) in
    big_at c.args.limit c.args.source.now all c.args.read.now.lines c.args.read.now.places c.in-Err-BadNumber.index c.bad_number.result are within big c.bad_number.ensures
