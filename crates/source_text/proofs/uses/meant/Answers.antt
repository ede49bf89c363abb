use Rattle.std.proofs.Common.{◌≡◌, ◌∙◌, get_or, subst}
use Rattle.std.proofs.lemmas.List.{get_or_default}
use Rattle.source_text.specs.declared.names.Known.TheVariants as known
use Rattle.source_text.specs.Keeping.{IsMeant}
use Rattle.source_text.proofs.UseLemmas.{definition_meant, other_meant}
use Rattle.source_text.proofs.uses.meant.Goals as goal

pub returns-in_ok-found-in-Definition : goal.returns-in_ok-found-in-Definition
returns-in_ok-found-in-Definition c names lists meant are =
    let all = c.args.scope.now.known.now in
    let same : get_or all c.args.id known.Unknown ≡ known.Definition c.in-Definition.count c.in-Definition.held = get_or_default all c.args.id known.Unknown c.index-scope-id.result c.if-scope-id.false ∙ c.in-Definition.is in
    definition_meant c.args.scope.now.limit c.in-Definition.count c.args.kind c.args.at c.in-Definition.held c.in_ok-found-in-Definition.found lists (names c.args.id)
    (subst (λ k. IsMeant c.args.scope.now.limit k (names c.args.id)) same (meant c.args.id))
    (λ pieces held whole. c.in_ok-found-in-Definition.ensures pieces lists held whole are)

pub returns-in-Unknown : goal.returns-in-Unknown
returns-in-Unknown c names lists meant are =
    let all = c.args.scope.now.known.now in
    let of = get_or all c.args.id c.index-scope-id.result in
    let same : get_or all c.args.id known.Unknown ≡ of = get_or_default all c.args.id known.Unknown c.index-scope-id.result c.if-scope-id.false in
    other_meant c.args.scope.now.limit c.args.kind c.args.at of c.bad-in-Unknown.result lists (names c.args.id) c.in-Unknown.is (subst (λ k. IsMeant c.args.scope.now.limit k (names c.args.id)) same (meant c.args.id))
    (c.bad-in-Unknown.ensures c.args.scope.now.limit)
