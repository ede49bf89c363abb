use Rattle.sym_strand.proofs.SegmentLaws.{has_segments, segments_are_one}
use Rattle.sym_strand.proofs.laws.one_list_of_segments.Goals as goal

pub returns-clause-made : goal.returns-clause-made
returns-clause-made c = has_segments

pub returns-clause-once : goal.returns-clause-once
returns-clause-once c = segments_are_one
