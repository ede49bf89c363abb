use Rattle.explainer.proofs.Along.{leads_no_failure, leads_no_dependence, failures_no_dependence}
use Rattle.explainer.proofs.laws.one_way_along.Goals as goal

pub returns-clause-no_failure : goal.returns-clause-no_failure
returns-clause-no_failure c = leads_no_failure

pub returns-clause-leads : goal.returns-clause-leads
returns-clause-leads c = leads_no_dependence

pub returns-clause-failures : goal.returns-clause-failures
returns-clause-failures c = failures_no_dependence
