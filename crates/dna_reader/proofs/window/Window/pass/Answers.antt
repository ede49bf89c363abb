use Rattle.std.proofs.Common.{ap, ◌+◌}
use Rattle.dna_reader.proofs.WindowLemmas.{same_place, passed_ahead, shows_passed}
use Rattle.dna_reader.proofs.window.Window.pass.Goals as goal

pub returns-clause-ahead : goal.returns-clause-ahead
returns-clause-ahead c = passed_ahead c.self.inside c.args.self.now c.args.count c.self.view_is c.self.invariant c.requires

pub returns-clause-shows : goal.returns-clause-shows
returns-clause-shows c = λ d shows.
    let same = same_place c.self.inside c.args.self.now c.self.view_is in
    shows_passed c.args.self.now _ d c.args.count shows c.requires same.1 (ap (λ n. n + c.args.count) same.0)
    (passed_ahead c.self.inside c.args.self.now c.args.count c.self.view_is c.self.invariant c.requires)
