use Rattle.explainer.proofs.LongerReadings.{longer_pattern, longer_template}
use Rattle.explainer.proofs.laws.longer_readings.Goals as goal

pub returns-clause-pattern : goal.returns-clause-pattern
returns-clause-pattern c = longer_pattern

pub returns-clause-template : goal.returns-clause-template
returns-clause-template c = longer_template
