use Rattle.fuun_top.proofs.output.put_output.Goals as goal

pub returns-in-Run-clause-wrote : goal.returns-in-Run-clause-wrote
returns-in-Run-clause-wrote g c = rw c.in-Run.is c.put_run.ensures.wrote

pub returns-in-Run-clause-ticks : goal.returns-in-Run-clause-ticks
returns-in-Run-clause-ticks g c = rw c.in-Run.is c.put_run.ensures.ticks

pub returns-in-Plain-clause-wrote : goal.returns-in-Plain-clause-wrote
returns-in-Plain-clause-wrote g c = rw c.in-Plain.is c.put_plain.ensures

pub returns-in-Listing-clause-wrote : goal.returns-in-Listing-clause-wrote
returns-in-Listing-clause-wrote g c = rw c.in-Listing.is c.put_listing.ensures.wrote

pub returns-in-Listing-clause-ticks : goal.returns-in-Listing-clause-ticks
returns-in-Listing-clause-ticks g c = rw c.in-Listing.is c.put_listing.ensures.ticks

pub returns-in-Trace-clause-wrote : goal.returns-in-Trace-clause-wrote
returns-in-Trace-clause-wrote g c = rw c.in-Trace.is c.put_trace.ensures.wrote

pub returns-in-Trace-clause-ticks : goal.returns-in-Trace-clause-ticks
returns-in-Trace-clause-ticks g c = rw c.in-Trace.is c.put_trace.ensures.ticks

pub returns-in-Text-clause-wrote : goal.returns-in-Text-clause-wrote
returns-in-Text-clause-wrote g c = rw c.in-Text.is c.put_text.ensures

pub returns-in-Bench-clause-wrote : goal.returns-in-Bench-clause-wrote
returns-in-Bench-clause-wrote g c = rw c.in-Bench.is c.put_bench.ensures.wrote

pub returns-in-Bench-clause-ticks : goal.returns-in-Bench-clause-ticks
returns-in-Bench-clause-ticks g c = rw c.in-Bench.is c.put_bench.ensures.ticks

pub returns-in-Rewind-clause-wrote : goal.returns-in-Rewind-clause-wrote
returns-in-Rewind-clause-wrote g c = rw c.in-Rewind.is c.put_rewound.ensures.wrote

pub returns-in-Rewind-clause-ticks : goal.returns-in-Rewind-clause-ticks
returns-in-Rewind-clause-ticks g c = rw c.in-Rewind.is c.put_rewound.ensures.ticks

pub returns-in-Explain-clause-wrote : goal.returns-in-Explain-clause-wrote
returns-in-Explain-clause-wrote g c = rw c.in-Explain.is c.put_explained_prefix.ensures
