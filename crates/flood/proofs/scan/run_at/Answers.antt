use Rattle.flood.proofs.Rows.{run_from_ends}
use Rattle.flood.proofs.scan.run_at.Goals as goal

pub returns-clause-run : goal.returns-clause-run
returns-clause-run g c =
    run_from_ends _ _ c.row-row.result.now c.args.spot _ _ _ c.requires.inside c.requires.here c.row-row.ensures.value c.row-row.ensures.len c.west_end-start.ensures.from c.west_end-start.ensures.run c.west_end-start.ensures.longest
    c.east_end-stop.ensures.from c.east_end-stop.ensures.run c.east_end-stop.ensures.longest
