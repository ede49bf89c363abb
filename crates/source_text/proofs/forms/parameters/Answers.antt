use Rattle.std.proofs.Common.{◌≡◌, ◌<◌, ◌∷◌, ◌++◌, ◌∙◌, [], List, Ok, ap, arith, length, subst, sym}
use Rattle.source_text.specs.declared.forms.Spot.{Spot}
use Rattle.source_text.specs.declared.signs.Sign.TheVariants.{CloseBracket}
use Rattle.source_text.specs.Forms.{spot}
use Rattle.source_text.specs.Reading.{Read}
use Rattle.source_text.proofs.FormLemmas.{SpotsFound, first_bad, none_given, spots_bad, spots_end, spots_first, spots_more}
use Rattle.source_text.proofs.SequenceLemmas.{closed_none, closed_some}
use Rattle.source_text.proofs.forms.parameters.Goals as goal

pub returns-then-not-stands-clause-value : goal.returns-then-not-stands-clause-value
returns-then-not-stands-clause-value c =
    let make : List Spot → Read (List Spot) = λ s. Ok (s, c.args.tokens.now) in
    ap make c.new-spots.ensures ∙ sym (none_given c.args.tokens.now (sym c.stands.ensures ∙ c.if-not-stands.true))

pub returns-in-Err-clause-value : goal.returns-in-Err-clause-value
returns-in-Err-clause-value c =
    sym (first_bad c.args.tokens.now c.in-Err.left (sym c.stands.ensures ∙ c.if-not-stands.false) (c.in-Err.ensures.value ∙ ap spot c.tail.ensures.value))

pub spots-init : goal.spots-init
spots-init c =
    let spots : c.push.new.self ≡ c.in-Ok.read.0 ∷ [] = c.in_ok-push.ensures.added ∙ ap (λ l. l ++ c.in-Ok.read.0 ∷ []) c.new-spots.ensures in
    record {
      within = omega (arith, c.in-Ok.ensures.within, c.tail.ensures.within);
      found =
          subst (λ l. SpotsFound c.args.tokens.now l c.in-Ok.read.1.now) (sym spots)
          (spots_first c.args.tokens.now c.in-Ok.read.1.now c.in-Ok.read.0 (sym c.stands.ensures ∙ c.if-not-stands.false) (c.in-Ok.ensures.value ∙ ap spot c.tail.ensures.value));
    }

pub returns-in-Err-read_spot-clause-value : goal.returns-in-Err-read_spot-clause-value
returns-in-Err-read_spot-clause-value c =
    sym (spots_bad c.args.tokens.now c.spots.spots c.spots.rest.now c.in-Err-read_spot.left (sym c.stands-in-spots.ensures ∙ c.spots-test.true)
    (c.in-Err-read_spot.ensures.value ∙ ap spot c.tail-in-spots.ensures.value) c.spots.invariant.found)

pub spots-preserved : goal.spots-preserved
spots-preserved c =
    let fewer : length c.in-Ok-read_spot.read.1.now < length c.spots.rest.now = omega (arith, c.in-Ok-read_spot.ensures.within, c.tail-in-spots.ensures.within) in
    record {
      within = omega (arith, fewer, c.spots.invariant.within);
      found =
          spots_more c.args.tokens.now c.spots.spots c.push-in-spots.new.self c.spots.rest.now c.in-Ok-read_spot.read.1.now c.in-Ok-read_spot.read.0 (sym c.stands-in-spots.ensures ∙ c.spots-test.true)
          (c.in-Ok-read_spot.ensures.value ∙ ap spot c.tail-in-spots.ensures.value) fewer c.in_ok-push-2.ensures.added c.spots.invariant.found;
    }

pub returns-in-Ok-behind-clause-value : goal.returns-in-Ok-behind-clause-value
returns-in-Ok-behind-clause-value c =
    sym (spots_end c.args.tokens.now c.spots.spots c.spots.rest.now (sym c.stands-in-spots.ensures ∙ c.spots-test.false) c.spots.invariant.found
    ∙ closed_some CloseBracket c.spots.spots c.spots.rest.now c.in-Ok-behind.left.now c.in-Ok-behind.ensures.value)

pub returns-clause-value : goal.returns-clause-value
returns-clause-value c =
    sym (spots_end c.args.tokens.now c.spots.spots c.spots.rest.now (sym c.stands-in-spots.ensures ∙ c.spots-test.false) c.spots.invariant.found
    ∙ closed_none CloseBracket c.spots.spots c.spots.rest.now c.in-Err-behind.left c.in-Err-behind.ensures.value)
