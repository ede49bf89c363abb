use Rattle.std.proofs.Common.{◌∙◌, ap, length, refl}
use Rattle.dna_reader.specs.Codes.{template_item_code}
use Rattle.source_text.proofs.MeasureLemmas.{measured_one}
use Rattle.source_text.proofs.measure.Measure.one.Goals as goal

pub returns : goal.returns
returns c at =
    measured_one (record { pattern = c.in_ok-fixed_len.field-0; template = c.template_item_len.result; plain = 1; skips = c.in_ok-skips.skips }) c.args.item.now at c.in_ok-fixed_len.ensures
    (c.template_item_len.ensures.len ∙ ap (λ item. length (template_item_code item)) c.template_item.ensures) c.template_item_len.ensures.most refl c.in_ok-skips.ensures
