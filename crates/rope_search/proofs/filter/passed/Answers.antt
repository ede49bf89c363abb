use Rattle.rope_search.proofs.Going.{goes_then}
use Rattle.rope_search.proofs.filter.passed.Goals as goal

pub returns-clause-goes : goal.returns-clause-goes
returns-clause-goes c =
    goes_then c.args.needle.now c.args.bases.now c.args.at c.args.found c.passed_by-near.result c.args.found c.passed_by.result c.args.found c.passed_by-near.ensures.goes c.passed_by.ensures.goes
