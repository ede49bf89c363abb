use Rattle.std.proofs.Common.{◌≡◌, ◌++◌, ◌∙◌, List, [], ℕ, arith, ap, codes, drop, length, length-drop, subst, sym}
use Rattle.std.proofs.lemmas.List.{drop_all}
use Rattle.assembler.specs.Ahead.{Runs, pattern_item_ahead, template_item_ahead}
use Rattle.assembler.proofs.PairLemmas.{no_arrow, more_left, pair_to}
use Rattle.assembler.proofs.pairs.read_pair.Goals as goal

pub returns-in_default : goal.returns-in_default
returns-in_default c =
    let none : (more : List ℕ) → drop c.in_ok-pattern.len c.args.line.now ≡ codes " -> " ++ more → ⊥ = λ more e. c.in_default.ensures more (c.rest_from.ensures ∙ e) in
    no_arrow c.args.line.now c.in_ok-pattern.pattern (drop c.in_ok-pattern.len c.args.line.now) c.in_ok-pattern.ensures none

pub returns-then-len-rest : goal.returns-then-len-rest
returns-then-len-rest c =
    let arrow : drop c.in_ok-pattern.len c.args.line.now ≡ codes " -> " ++ c.in-Some.rest.now = sym c.rest_from.ensures ∙ c.in-Some.ensures in
    let first : Runs pattern_item_ahead c.args.line.now c.in_ok-pattern.pattern (codes " -> " ++ c.in-Some.rest.now) =
    subst (λ l. Runs pattern_item_ahead c.args.line.now c.in_ok-pattern.pattern l) arrow c.in_ok-pattern.ensures in
    more_left c.args.line.now c.in_ok-pattern.pattern c.in-Some.rest.now c.in_ok-template.template (drop c.in_ok-template.len c.in-Some.rest.now) first c.in_ok-template.ensures
    (λ e. omega (arith, ap length e, length-drop c.in_ok-template.len c.in-Some.rest.now, c.if-len-rest.true))

pub returns : goal.returns
returns c =
    let arrow : drop c.in_ok-pattern.len c.args.line.now ≡ codes " -> " ++ c.in-Some.rest.now = sym c.rest_from.ensures ∙ c.in-Some.ensures in
    let first : Runs pattern_item_ahead c.args.line.now c.in_ok-pattern.pattern (codes " -> " ++ c.in-Some.rest.now) =
    subst (λ l. Runs pattern_item_ahead c.args.line.now c.in_ok-pattern.pattern l) arrow c.in_ok-pattern.ensures in
    let second : Runs template_item_ahead c.in-Some.rest.now c.in_ok-template.template [] =
    subst (λ l. Runs template_item_ahead c.in-Some.rest.now c.in_ok-template.template l) (drop_all c.in_ok-template.len c.in-Some.rest.now c.if-len-rest.false) c.in_ok-template.ensures in
    pair_to c.args.line.now c.in_ok-pattern.pattern c.in_ok-template.template c.in-Some.rest.now first second
