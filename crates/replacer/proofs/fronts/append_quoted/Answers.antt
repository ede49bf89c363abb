use Rattle.std.proofs.Common.{◌++◌, ap, arith, ◌∙◌}
use Rattle.std.proofs.lemmas.Result.{on_ok_weaker}
use Rattle.replacer.proofs.PutLengths.{put_plain, quoted_more, quoted_once}
use Rattle.replacer.proofs.fronts.append_quoted.Goals as goal

pub returns-then-level-eq0 : goal.returns-then-level-eq0
returns-then-level-eq0 c =
    c.in_ok-extend_from_slice.ensures.items ∙ put_plain c.args.out.now.items c.args.text.now c.args.level (omega arith)

pub returns-then-level-eq1 : goal.returns-then-level-eq1
returns-then-level-eq1 c =
    on_ok_weaker c.quote_into.result (λ added. added ∙ ap (λ l. c.args.out.now.items ++ l) (quoted_once c.args.text.now c.args.level (omega arith))) c.quote_into.ensures.added

pub returns : goal.returns
returns c =
    on_ok_weaker c.quote_into-2.result (λ added. added ∙ ap (λ l. c.args.out.now.items ++ l) (quoted_more c.args.text.now c.as_slice.result.now c.args.level (omega arith) (c.as_slice.ensures.value ∙ c.in_ok-quoted.ensures))) c.quote_into-2.ensures.added
