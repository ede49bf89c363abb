use Rattle.fuun_top.proofs.LoadLemmas.{load_fits, load_short, joined_within}
use Rattle.fuun_top.proofs.bench.load_dna.Goals as goal

pub prefix_of-requires-clause-fit : goal.prefix_of-requires-clause-fit
prefix_of-requires-clause-fit c = load_fits c.in_ok-target.field-0.patches c.args.seed c.args.size c.args.rounds c.in_ok-target.ensures.patches

pub prefix_of-requires-clause-short : goal.prefix_of-requires-clause-short
prefix_of-requires-clause-short c = load_short c.in_ok-target.field-0.patches c.args.seed c.args.size c.args.rounds c.requires.1 c.requires.2 c.in_ok-target.ensures.patches

pub returns-clause-within : goal.returns-clause-within
returns-clause-within c =
    joined_within c.joined.result c.in_ok-target.field-0.patches c.in_ok-prefix.prefix c.in_ok-target.field-0.target c.args.seed c.args.size c.args.rounds c.requires.1 c.requires.2
    c.in_ok-target.ensures.patches c.in_ok-target.ensures.target c.in_ok-prefix.ensures c.joined.ensures
