use Rattle.std.proofs.Common.{◌≡◌, ◌∙◌, Bool, false, None, Ok, Err, Result, ap, length, sym}
use Rattle.std.specs.Prelude.{◌==◌, ◌&&◌, if◌then◌else◌, nat_lt, not}
use Rattle.source_text.specs.declared.judging.Refusal.{Refusal}
use Rattle.source_text.specs.declared.judging.Refusal.TheVariants.{TooLong}
use Rattle.source_text.specs.Judging.{State, define_faults, state}
use Rattle.source_text.specs.Names.{Definition, with_meaning}
use Rattle.source_text.specs.Pieces.{size}
use Rattle.source_text.specs.Reading.{both_faults}
use Rattle.source_text.specs.Taking.{refusal_of}
use Rattle.source_text.proofs.TakingLemmas.{held_less, judged_none, name_none, whole_of}
use Rattle.source_text.proofs.taking.take_define.Goals as goal

pub returns-clause-value : goal.returns-clause-value
returns-clause-value c before tokens x kept known worth names =
    let limit = c.args.reading.now.limit in
    let define = c.args.define in
    let count = length define.head.parameters in
    let own = define_faults before.names define.head.name define.head.parameters in
    let serve : None ≡ refusal_of (both_faults define.known define.template.faults) = c.in_default.ensures ∙ ap refusal_of c.and.ensures in
    let all : None ≡ refusal_of (both_faults own x.faults) = serve ∙ ap refusal_of (ap (λ f. both_faults f define.template.faults) names ∙ ap (both_faults own) worth.faults) in
    let short : (not (count == 0) && nat_lt limit (size x.pieces)) ≡ false = sym (
    c.is_too_long.ensures ∙ ap (λ n. not (n == 0) && nat_lt limit define.template.held.count) c.len-count.ensures
    ∙ ap (λ b. not (count == 0) && b) (ap (nat_lt limit) worth.held.counted ∙ held_less limit (size x.pieces) c.requires)
    ) ∙ c.if-is_too_long.false in
    let now = state (with_meaning before.names define.head.name.id (Definition count x.pieces)) before.lines in
    let make : Bool → Result State Refusal = λ b. if b then Err TooLong else Ok now in (
      now,
      judged_none (both_faults own x.faults) (make (not (count == 0) && nat_lt limit (size x.pieces))) all ∙ ap make short,
      record {
        known =
            c.in_ok-set_known.ensures limit before.names (Definition count x.pieces) (known (name_none define.known define.template.faults serve))
            (record { same = c.len-count.ensures; is = worth.held; whole = whole_of limit count (size x.pieces) short });
        lines = kept;
      },
    )
