use Rattle.std.proofs.Common.{subst}
use Rattle.fuun_top.specs.Output.{IsListingOutput}
use Rattle.fuun_top.specs.WritingRoom.{Wrote}
use Rattle.fuun_top.proofs.WrittenOutput.{listing_put}
use Rattle.fuun_top.proofs.listed.put_listing.Goals as goal

pub returns-in-Ok-clause-wrote : goal.returns-in-Ok-clause-wrote
returns-in-Ok-clause-wrote g c =
    subst (λ dna. Wrote (IsListingOutput dna c.args.count) c.listing_status.result (g.S.Sink.bytes c.args.out.now) (g.S.Sink.bytes c.list_pairs.new.sink) (g.S.Sink.faults c.args.out.now) (g.S.Sink.faults c.list_pairs.new.sink))
    c.in-Ok.ensures.bases
    (listing_put c.in-Ok.strand.bases c.args.count c.list_pairs.result c.listing_status.result _ _ _ _ c.list_pairs.ensures.puts c.list_pairs.ensures.fault c.list_pairs.ensures.no_fault c.listing_status.ensures)
