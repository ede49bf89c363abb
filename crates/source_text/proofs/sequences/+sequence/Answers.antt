use Rattle.std.proofs.Common.{◌≡◌, ◌<◌, ◌≤◌, ◌∷◌, ◌∙◌, [], Ok, List, ap, arith, length, rules, subst, sym}
use Rattle.source_tokens.specs.declared.words.Token.{Token}
use Rattle.source_text.specs.declared.sequences.Kind.TheVariants.{Bases, Template}
use Rattle.source_text.specs.declared.signs.Sign.TheVariants.{CloseBracket, Semicolon}
use Rattle.std.specs.Borrow.{Bor}
use Rattle.source_text.specs.declared.parts.Found.{Found}
use Rattle.source_text.specs.Keeping.{AreHeld, IsWorth, Reads}
use Rattle.source_text.specs.Reading.{no_faults}
use Rattle.source_text.specs.Sequences.{Worth, arguments, inside_at, part, repeatable, search_worth, sequence_by, use_of}
use Rattle.source_text.proofs.SequenceLemmas.{bad_read, bad_uses, bracket_closed, closed_none, closed_some, inside_none, inside_some, name_alone, name_bad, name_used, no_tokens, ok_fact, ok_read, ok_uses, once_common, once_none, once_own, parts_bad, parts_end, parts_first, parts_more, search_bad, search_closed, search_open, stands_tail, templates_bad, templates_end, templates_first, templates_more}
use Rattle.source_text.proofs.sequences.+sequence.Goals as goal

pub arguments-templates-init : goal.arguments-templates-init
arguments-templates-init t c =
    record {
      within = ok_fact (λ (r : Found × Bor (List Token)). length r.1.now ≤ length c.args.tokens.now) c.in_ok-read.field-0 c.in-Ok.read c.in-Ok.is c.in_ok-read.ensures.within;
      found = λ names known.
          templates_first names c.args.scope.now.line (inside_at names c.args.scope.now.line c.args.depth) c.args.scope.now.limit c.args.tokens.now c.in-Ok.read.0 c.in_ok-given.given c.in-Ok.read.1.now
          (ok_read c.args.scope.now.limit c.in_ok-read.field-0 c.in-Ok.read ((inside_at names c.args.scope.now.line c.args.depth) Template c.args.tokens.now) c.in-Ok.is (c.in_ok-read.ensures.value names known)) c.in_ok-given.ensures;
    }

pub arguments-returns-in-Err-2-clause-value : goal.arguments-returns-in-Err-2-clause-value
arguments-returns-in-Err-2-clause-value t c names known =
    templates_bad names c.args.scope.now.line (inside_at names c.args.scope.now.line c.args.depth) c.args.scope.now.limit c.args.tokens.now c.templates.given c.templates.rest.now c.in-Err-2.left (sym c.stands.ensures ∙ c.templates-test.true)
    (ap ((inside_at names c.args.scope.now.line c.args.depth) Template) (sym c.tail.ensures.value) ∙ bad_read c.args.scope.now.limit c.in_ok-read-2.field-0 c.in-Err-2.left ((inside_at names c.args.scope.now.line c.args.depth) Template c.tail.result.now) c.in-Err-2.is (c.in_ok-read-2.ensures.value names known))
    (c.templates.invariant.found names known)

pub arguments-templates-preserved : goal.arguments-templates-preserved
arguments-templates-preserved t c =
    let short : length c.in-Ok-2.read.1.now ≤ length c.tail.result.now = ok_fact (λ (r : Found × Bor (List Token)). length r.1.now ≤ length c.tail.result.now) c.in_ok-read-2.field-0 c.in-Ok-2.read c.in-Ok-2.is c.in_ok-read-2.ensures.within in
    let less = stands_tail Semicolon c.templates.rest.now (sym c.stands.ensures ∙ c.templates-test.true) in
    let fewer : length c.in-Ok-2.read.1.now < length c.templates.rest.now = omega (arith, short, less, ap length c.tail.ensures.value) in
    record {
      within = omega (arith, fewer, c.templates.invariant.within);
      found = λ names known.
          templates_more names c.args.scope.now.line (inside_at names c.args.scope.now.line c.args.depth) c.args.scope.now.limit c.args.tokens.now c.templates.given c.in_ok-given-2.given c.in-Ok-2.read.0 c.templates.rest.now c.in-Ok-2.read.1.now (sym c.stands.ensures ∙ c.templates-test.true)
          (subst (λ l. (worth : Worth) × ((inside_at names c.args.scope.now.line c.args.depth) Template l ≡ Ok (worth, c.in-Ok-2.read.1.now)) × IsWorth c.args.scope.now.limit c.in-Ok-2.read.0 worth) c.tail.ensures.value
          (ok_read c.args.scope.now.limit c.in_ok-read-2.field-0 c.in-Ok-2.read ((inside_at names c.args.scope.now.line c.args.depth) Template c.tail.result.now) c.in-Ok-2.is (c.in_ok-read-2.ensures.value names known)))
          fewer (λ u x a b. c.in_ok-given-2.ensures c.args.scope.now.limit u x a b) (c.templates.invariant.found names known);
    }

pub arguments-returns-in-Ok-behind-clause-value : goal.arguments-returns-in-Ok-behind-clause-value
arguments-returns-in-Ok-behind-clause-value t c names known =
    let end = templates_end names c.args.scope.now.line (inside_at names c.args.scope.now.line c.args.depth) c.args.scope.now.limit c.args.tokens.now c.templates.given c.templates.rest.now (sym c.stands.ensures ∙ c.templates-test.false) (c.templates.invariant.found names known) in
    (end.0, end.1 ∙ closed_some CloseBracket end.0 c.templates.rest.now c.in-Ok-behind.left.now c.in-Ok-behind.ensures.value, end.2)

pub arguments-returns-in-Err-behind-clause-value : goal.arguments-returns-in-Err-behind-clause-value
arguments-returns-in-Err-behind-clause-value t c names known =
    let end = templates_end names c.args.scope.now.line (inside_at names c.args.scope.now.line c.args.depth) c.args.scope.now.limit c.args.tokens.now c.templates.given c.templates.rest.now (sym c.stands.ensures ∙ c.templates-test.false) (c.templates.invariant.found names known) in
    end.1 ∙ closed_none CloseBracket end.0 c.templates.rest.now c.in-Err-behind.left c.in-Err-behind.ensures.value

pub bracket-returns-in-Ok-behind-clause-value : goal.bracket-returns-in-Ok-behind-clause-value
bracket-returns-in-Ok-behind-clause-value t c names known =
    let read = ok_read c.args.scope.now.limit c.in_ok-read.field-0 c.in-Ok.read ((inside_at names c.args.scope.now.line c.args.depth) c.args.kind c.args.rest.now) c.in-Ok.is (c.in_ok-read.ensures.value names known) in
    (read.0, bracket_closed names c.args.scope.now.line (inside_at names c.args.scope.now.line c.args.depth) c.args.kind c.args.rest.now c.in-Ok.read.1.now c.in-Ok-behind.rest.now read.0 read.1 c.in-Ok-behind.ensures.value, read.2)

pub inside-returns-then-depth-eq0-clause-value : goal.inside-returns-then-depth-eq0-clause-value
inside-returns-then-depth-eq0-clause-value t c names known = inside_none names c.args.scope.now.line c.args.depth c.args.kind c.args.rest.now c.if-depth-eq0.true

pub inside-returns-clause-value : goal.inside-returns-clause-value
inside-returns-clause-value t c names known =
    subst (λ d. Reads c.args.scope.now.limit c.in_ok-read.read d) (sym (inside_some names c.args.scope.now.line c.args.depth c.args.kind c.args.rest.now c.if-depth-eq0.false)) (c.in_ok-read.ensures.value names known)

pub name_part-returns-then-not-has_templates-clause-value : goal.name_part-returns-then-not-has_templates-clause-value
name_part-returns-then-not-has_templates-clause-value t c names known = (
  use_of c.args.kind c.args.at [] (names c.args.id) no_faults,
  name_alone names c.args.scope.now.line (inside_at names c.args.scope.now.line c.args.depth) c.args.kind c.args.id c.args.at c.args.rest.now (sym (c.has_templates.ensures names known) ∙ c.if-not-has_templates.true),
  subst (λ f. IsWorth c.args.scope.now.limit c.in_ok-found.found (use_of c.args.kind c.args.at [] (names c.args.id) f)) c.none.ensures (c.in_ok-found.ensures names [] known tt),
)

pub name_part-returns-in-Err-clause-value : goal.name_part-returns-in-Err-clause-value
name_part-returns-in-Err-clause-value t c names known =
    name_bad names c.args.scope.now.line (inside_at names c.args.scope.now.line c.args.depth) c.args.kind c.args.id c.args.at c.args.rest.now c.in-Err.left (sym (c.has_templates.ensures names known) ∙ c.if-not-has_templates.false)
    (ap (arguments names c.args.scope.now.line (inside_at names c.args.scope.now.line c.args.depth)) (sym c.tail.ensures.value) ∙ bad_uses c.args.scope.now.limit c.in_ok-read.field-0 c.in-Err.left (arguments names c.args.scope.now.line (inside_at names c.args.scope.now.line c.args.depth) c.tail.result.now) c.in-Err.is (c.in_ok-read.ensures.value names known))

pub name_part-returns-clause-value : goal.name_part-returns-clause-value
name_part-returns-clause-value t c names known =
    let read = ok_uses c.args.scope.now.limit c.in_ok-read.field-0 c.in-Ok.read (arguments names c.args.scope.now.line (inside_at names c.args.scope.now.line c.args.depth) c.tail.result.now) c.in-Ok.is (c.in_ok-read.ensures.value names known) in (
      use_of c.args.kind c.args.at read.0.given (names c.args.id) read.0.faults,
      name_used names c.args.scope.now.line (inside_at names c.args.scope.now.line c.args.depth) c.args.kind c.args.id c.args.at c.args.rest.now c.in-Ok.read.1.now read.0 (sym (c.has_templates.ensures names known) ∙ c.if-not-has_templates.false)
          (ap (arguments names c.args.scope.now.line (inside_at names c.args.scope.now.line c.args.depth)) (sym c.tail.ensures.value) ∙ read.1),
      subst (λ f. IsWorth c.args.scope.now.limit c.in_ok-found-2.found (use_of c.args.kind c.args.at read.0.given (names c.args.id) f)) read.2.faults
          (c.in_ok-found-2.ensures names read.0.given known (subst (λ h. AreHeld c.args.scope.now.limit h read.0.given) (sym c.as_slice.ensures.value) read.2.held)),
    )

pub search_part-returns-in-Err-clause-value : goal.search_part-returns-in-Err-clause-value
search_part-returns-in-Err-clause-value t c names known =
    search_bad names c.args.scope.now.line (inside_at names c.args.scope.now.line c.args.depth) c.args.at c.args.rest.now c.in-Err.left (bad_read c.args.scope.now.limit c.in_ok-read.field-0 c.in-Err.left (sequence_by names c.args.scope.now.line (inside_at names c.args.scope.now.line c.args.depth) Bases c.args.rest.now) c.in-Err.is (c.in_ok-read.ensures.value names known))

pub search_part-returns-in-Err-behind-clause-value : goal.search_part-returns-in-Err-behind-clause-value
search_part-returns-in-Err-behind-clause-value t c names known =
    let read = ok_read c.args.scope.now.limit c.in_ok-read.field-0 c.in-Ok.read (sequence_by names c.args.scope.now.line (inside_at names c.args.scope.now.line c.args.depth) Bases c.args.rest.now) c.in-Ok.is (c.in_ok-read.ensures.value names known) in
    search_open names c.args.scope.now.line (inside_at names c.args.scope.now.line c.args.depth) c.args.at c.args.rest.now c.in-Ok.read.1.now read.0 c.in-Err-behind.left read.1 c.in-Err-behind.ensures.value

pub search_part-returns-clause-value : goal.search_part-returns-clause-value
search_part-returns-clause-value t c names known =
    let read = ok_read c.args.scope.now.limit c.in_ok-read.field-0 c.in-Ok.read (sequence_by names c.args.scope.now.line (inside_at names c.args.scope.now.line c.args.depth) Bases c.args.rest.now) c.in-Ok.is (c.in_ok-read.ensures.value names known) in
    (search_worth c.args.at read.0, search_closed names c.args.scope.now.line (inside_at names c.args.scope.now.line c.args.depth) c.args.at c.args.rest.now c.in-Ok.read.1.now c.in-Ok-behind.rest.now read.0 read.1 c.in-Ok-behind.ensures.value, c.in_ok-found.ensures read.0 read.2)

pub sequence-parts-init : goal.sequence-parts-init
sequence-parts-init t c = record {
  within = omega arith;
  found = λ names known. parts_first names c.args.scope.now.line (inside_at names c.args.scope.now.line c.args.depth) c.args.scope.now.limit c.args.kind c.args.tokens.now c.nothing-found.result (c.nothing-found.ensures c.args.scope.now.limit);
}

pub sequence-returns-in-Err-clause-value : goal.sequence-returns-in-Err-clause-value
sequence-returns-in-Err-clause-value t c names known =
    parts_bad names c.args.scope.now.line (inside_at names c.args.scope.now.line c.args.depth) c.args.scope.now.limit c.args.kind c.args.tokens.now c.parts.found c.parts.rest.now c.in-Err.left (sym c.begins.ensures ∙ c.parts-test.true)
    (bad_read c.args.scope.now.limit c.in_ok-read.field-0 c.in-Err.left (repeatable (part names c.args.scope.now.line (inside_at names c.args.scope.now.line c.args.depth) c.args.kind) c.parts.rest.now) c.in-Err.is (c.in_ok-read.ensures.value names known)) (c.parts.invariant.found names known)

pub sequence-parts-preserved : goal.sequence-parts-preserved
sequence-parts-preserved t c =
    let fewer : length c.in-Ok.read.1.now < length c.parts.rest.now = ok_fact (λ (r : Found × Bor (List Token)). length r.1.now < length c.parts.rest.now) c.in_ok-read.field-0 c.in-Ok.read c.in-Ok.is c.in_ok-read.ensures.within in
    record {
      within = omega (arith, fewer, c.parts.invariant.within);
      found = λ names known.
          parts_more names c.args.scope.now.line (inside_at names c.args.scope.now.line c.args.depth) c.args.scope.now.limit c.args.kind c.args.tokens.now c.parts.found c.in-Ok.read.0 c.in_ok-found.found c.parts.rest.now c.in-Ok.read.1.now (sym c.begins.ensures ∙ c.parts-test.true)
          (ok_read c.args.scope.now.limit c.in_ok-read.field-0 c.in-Ok.read (repeatable (part names c.args.scope.now.line (inside_at names c.args.scope.now.line c.args.depth) c.args.kind) c.parts.rest.now) c.in-Ok.is (c.in_ok-read.ensures.value names known))
          fewer c.in_ok-found.ensures (c.parts.invariant.found names known);
    }

pub sequence-returns-clause-value : goal.sequence-returns-clause-value
sequence-returns-clause-value t c names known =
    parts_end names c.args.scope.now.line (inside_at names c.args.scope.now.line c.args.depth) c.args.scope.now.limit c.args.kind c.args.tokens.now c.parts.found c.parts.rest.now (sym c.begins.ensures ∙ c.parts-test.false) (c.parts.invariant.found names known)

pub once-returns-in_default-clause-value : goal.once-returns-in_default-clause-value
once-returns-in_default-clause-value t c names known =
    let none : c.args.tokens.now ≡ [] = no_tokens c.args.tokens.now c.in_default.ensures.cases in
    ap (part names c.args.scope.now.line (inside_at names c.args.scope.now.line c.args.depth) c.args.kind) none ∙ once_none names c.args.scope.now.line (inside_at names c.args.scope.now.line c.args.depth) c.args.kind

pub once-returns-then-not-begins_common-clause-value : goal.once-returns-then-not-begins_common-clause-value
once-returns-then-not-begins_common-clause-value t c names known =
    let tokens : c.args.tokens.now ≡ c.in-Some.first.now ∷ c.in-Some.rest.now = search rules in
    let is = ap (part names c.args.scope.now.line (inside_at names c.args.scope.now.line c.args.depth) c.args.kind) tokens ∙ once_own names c.args.scope.now.line (inside_at names c.args.scope.now.line c.args.depth) c.args.kind c.in-Some.first.now c.in-Some.rest.now (sym c.begins_common.ensures ∙ c.if-not-begins_common.true) in
    subst (λ d. Reads c.args.scope.now.limit c.in_ok-read.read d) (sym is) (c.in_ok-read.ensures.value names known)

pub once-returns-clause-value : goal.once-returns-clause-value
once-returns-clause-value t c names known =
    let tokens : c.args.tokens.now ≡ c.in-Some.first.now ∷ c.in-Some.rest.now = search rules in
    let is = ap (part names c.args.scope.now.line (inside_at names c.args.scope.now.line c.args.depth) c.args.kind) tokens ∙ once_common names c.args.scope.now.line (inside_at names c.args.scope.now.line c.args.depth) c.args.kind c.in-Some.first.now c.in-Some.rest.now (sym c.begins_common.ensures ∙ c.if-not-begins_common.false) in
    subst (λ d. Reads c.args.scope.now.limit c.in_ok-read-2.read d) (sym is) (c.in_ok-read-2.ensures.value names known)
