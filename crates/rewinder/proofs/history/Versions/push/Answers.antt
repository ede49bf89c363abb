use Rattle.std.proofs.Common.{[], ◌∷◌, ap, map, ◌∙◌}
use Rattle.std.proofs.lemmas.List.{map-append}
use Rattle.rewinder.specs.History.{History}
use Rattle.rewinder.proofs.HistoryLemmas.{history_pushed}
use Rattle.rewinder.proofs.history.Versions.push.Goals as goal

pub invariant_of-self-2 : goal.invariant_of-self-2
invariant_of-self-2 g c =
    let old : History = record { limit = c.self.inside.limit; kept = map g.S.Strand.bases c.self.inside.kept.items; stop = c.self.inside.stop } in
    history_pushed old c.args.self.now (map g.S.Strand.bases c.push.new.self.items) (g.S.Strand.bases c.args.next) c.self.view_is
    (ap (map g.S.Strand.bases) c.in_ok-push.ensures.items ∙ map-append g.S.Strand.bases c.self.inside.kept.items (c.args.next ∷ []))
    c.self.invariant c.requires.goes c.requires.fits c.requires.open c.requires.room

pub returns-clause-known : goal.returns-clause-known
returns-clause-known g c =
    let old : History = record { limit = c.self.inside.limit; kept = map g.S.Strand.bases c.self.inside.kept.items; stop = c.self.inside.stop } in
    history_pushed old c.args.self.now (map g.S.Strand.bases c.push.new.self.items) (g.S.Strand.bases c.args.next) c.self.view_is
    (ap (map g.S.Strand.bases) c.in_ok-push.ensures.items ∙ map-append g.S.Strand.bases c.self.inside.kept.items (c.args.next ∷ []))
    c.self.invariant c.requires.goes c.requires.fits c.requires.open c.requires.room
